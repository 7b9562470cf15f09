-- `book::reply_all` meets its contract. The loop's invariant is `Replying`, whose laws are in output/specs/Replying.antt; a byte further
-- is one of the two laws of one byte. Assumes nothing.
use Rattle.std.proofs.Common.{◌≡◌, length}
use Rattle.output.specs.Replying.{Replying}
use Rattle.entitlements.specs.Entitlements.{processing}
use Rattle.book.specs.Said.{posting, coming}
use Rattle.book.proofs.reply_all.Given as goal

abbrev pub invariant-loop-byte : goal.invariant-loop-byte
invariant-loop-byte l = (length l.room ≡ length l.initial.room) × (length l.out ≡ length l.initial.out)
    × Replying (posting processing) (coming l.initial.line l.initial.account l.initial.room) l.bytes l.initial.out (coming l.line l.account l.room) l.out l.put l.byte-index
