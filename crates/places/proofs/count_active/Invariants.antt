-- `places::count_active` meets its contract: the places below `i` are counted. Assumes nothing.
use Rattle.places.specs.PlacesLaws.{Counted}
use Rattle.places.proofs.count_active.Given as goal

abbrev pub invariant-loop-i : goal.invariant-loop-i
invariant-loop-i l = Counted l.active l.i l.count
