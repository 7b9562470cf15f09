-- `numbers::numbers_at` meets its contract. The loop's invariant is `Counting`, whose laws are in specs/Counting.antt.
-- Assumes nothing.
use Prim.Native.Nat.{◌-◌}
use lib.ListN.{length}
use Rattle.numbers.specs.Counting.{Counting}
use Rattle.numbers.proofs.numbers_at.Given as goal

abbrev pub invariant-loop-i : goal.invariant-loop-i
invariant-loop-i l = Counting l.line l.at l.initial.room l.room l.count l.i

abbrev pub decreases-loop-i : goal.decreases-loop-i
decreases-loop-i l = length l.line - l.i
