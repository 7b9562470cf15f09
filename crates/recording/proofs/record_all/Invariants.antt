-- `recording::record_all` meets its contract. The loop's invariant is `Taking` twice, for the records and for what is told, whose laws are in
-- output/specs/Replying.antt. Assumes nothing.
use Rattle.std.proofs.Common.{◌≡◌, length}
use Rattle.lines.specs.Answers.{always}
use Rattle.output.specs.Taking.{Taking}
use Rattle.recording.specs.Recorded.{said, as_record, as_told, coming}
use Rattle.recording.proofs.record_all.Given as goal

abbrev pub invariant-loop-byte : goal.invariant-loop-byte
invariant-loop-byte l = (length l.room ≡ length l.initial.room) × (length l.out ≡ length l.initial.out) × (length l.told ≡ length l.initial.told)
    × Taking as_record (always said) (coming l.initial.recorded.line l.initial.room) l.bytes l.initial.out (coming l.recorded.line l.room) l.out l.recorded.put l.byte-index
    × Taking as_told (always said) (coming l.initial.recorded.line l.initial.room) l.bytes l.initial.told (coming l.recorded.line l.room) l.told l.recorded.told l.byte-index
