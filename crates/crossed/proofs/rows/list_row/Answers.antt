-- `crossed::rows::list_row` meets its contract: the extents so far hold the edges before the loop. Assumes nothing.
use Prim.Native.Nat.{ℕ, ◌+◌, ◌*◌}
use mathlib.Core.Path.{sym, ap, ap₂, subst, ◌∙◌}
use mathlib.Core.List.{List}
use borrow.Author.Rules.{rules}
use Rattle.edge.specs.Edge.{edge}
use Rattle.crossed.specs.Rows.{lowest, highest, RowsTo, Row, row_again, row_listed}
use Rattle.crossed.proofs.rows.list_row.Goals as goal

pub loop-i-preserved : goal.loop-i-preserved
loop-i-preserved c =
    let a = c.args in
    subst (Row a.numbers.now (8 * a.row) (c.loop-i.i + 1))
    (sym
    (ap₂ edge (c.low-south_west.ensures ∙ ap (lowest c.loop-i.south_west) c.end_of.ensures)
    (c.high-north_east.ensures ∙ ap (highest c.loop-i.north_east) c.end_of-in-loop-i.ensures)))
    (row_again c.loop-i.invariant (search rules))

pub returns-clause-rows_to_2 : goal.returns-clause-rows_to_2
returns-clause-rows_to_2 c =
    let a = c.args in
    subst (λ (room : List ℕ). RowsTo a.numbers.now room (a.row + 1)) (sym c.put_edge.ensures)
    (row_listed c.requires.rows_to c.requires.row_in_bounds_2 c.row_end-to.ensures c.loop-i-test.false c.loop-i.invariant)
