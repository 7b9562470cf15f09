-- `boundary::asked::odd_count` meets its contract: the count so far, with that of the edges left, is the whole. Assumes nothing.
use Rattle.boundary.specs.ListedLaws.{OddFrom}
use Rattle.boundary.proofs.asked.odd_count.Given as goal

abbrev pub invariant-loop-i : goal.invariant-loop-i
invariant-loop-i l = OddFrom l.edges l.p l.odd l.i
