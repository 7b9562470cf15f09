-- `summary::put_places` meets its contract: the lines of the places below `i` are put. Assumes nothing.
use Rattle.summary.specs.SummaryLaws.{Listing}
use Rattle.summary.proofs.put_places.Given as goal

abbrev pub invariant-loop-i : goal.invariant-loop-i
invariant-loop-i l = Listing l.account.high l.account.low l.account.active l.initial.out l.at l.out l.end l.i
