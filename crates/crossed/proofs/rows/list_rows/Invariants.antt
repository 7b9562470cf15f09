-- `crossed::rows::list_rows` meets its contract: the rows before the loop are listed. Assumes nothing.
use lib.ListN.{length}
use Rattle.crossed.specs.Rows.{Rowing}
use Rattle.crossed.proofs.rows.list_rows.Given as goal

abbrev pub invariant-loop-row : goal.invariant-loop-row
invariant-loop-row l = Rowing l.numbers (length l.initial.extents) l.extents l.row
