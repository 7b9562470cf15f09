-- `extents::extremes` meets its contract: the rectangle holds the corners behind the loop. Assumes nothing.
use Rattle.unit.specs.Widening.{Reached}
use Rattle.extents.proofs.extremes.Given as goal

abbrev pub invariant-loop-i : goal.invariant-loop-i
invariant-loop-i l = Reached l.numbers l.r l.i
