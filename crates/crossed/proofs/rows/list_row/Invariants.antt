-- `crossed::rows::list_row` meets its contract: the extents so far hold the edges before the loop. Assumes nothing.
use Prim.Native.Nat.{◌*◌}
use Rattle.edge.specs.Edge.{edge}
use Rattle.crossed.specs.Rows.{Row}
use Rattle.crossed.proofs.rows.list_row.Given as goal

abbrev pub invariant-loop-i : goal.invariant-loop-i
invariant-loop-i l = Row l.numbers (8 * l.row) l.i (edge l.south_west l.north_east)
