-- `register::reply_all` meets its contract. The loop's invariant is `Replying`, whose laws are in output/specs/Replying.antt.
-- Assumes nothing.
use Rattle.std.proofs.Common.{◌≡◌, length}
use Rattle.lines.specs.Answers.{always}
use Rattle.output.specs.Replying.{Replying}
use Rattle.register.specs.Said.{said, coming}
use Rattle.register.proofs.reply_all.Given as goal

abbrev pub invariant-loop-byte : goal.invariant-loop-byte
invariant-loop-byte l = (length l.room ≡ length l.initial.room) × (length l.out ≡ length l.initial.out) × (length l.coordinates ≡ length l.initial.coordinates)
    × Replying (always said) (coming l.initial.listed.line l.initial.room) l.bytes l.initial.out (coming l.listed.line l.room) l.out l.listed.put l.byte-index
