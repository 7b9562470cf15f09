-- `crossed::rows::list_near` meets its contract: all is told of the rows behind the loop, from the last back. Assumes nothing.
use lib.ListN.{length}
use Rattle.crossed.specs.NearRows.{Nearing}
use Rattle.crossed.proofs.rows.list_near.Given as goal

abbrev pub invariant-loop-row : goal.invariant-loop-row
invariant-loop-row l = Nearing l.extents l.own l.rows (length l.initial.near) l.near l.row l.first
