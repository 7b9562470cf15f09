-- `boundary::asked::unmet` meets its contract: every edge before the loop misses. Assumes nothing.
use Rattle.boundary.specs.ListedLaws.{UnmetFrom}
use Rattle.boundary.proofs.asked.unmet.Given as goal

abbrev pub invariant-loop-i : goal.invariant-loop-i
invariant-loop-i l = UnmetFrom l.edges l.r l.i
