-- `boundary::walk::list_edges` meets its contract: what is listed so far, with the edges from the places left, is all. Assumes nothing.
use Rattle.boundary.specs.ListedLaws.{Listing}
use Rattle.boundary.proofs.walk.list_edges.Given as goal

abbrev pub invariant-loop-i : goal.invariant-loop-i
invariant-loop-i l = Listing l.numbers l.initial.edges l.initial.places l.edges l.places l.i l.listed
