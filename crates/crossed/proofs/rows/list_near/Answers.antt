-- `crossed::rows::list_near` meets its contract: all is told of the rows behind the loop, from the last back. Assumes nothing.
use Prim.Native.Nat.{◌-◌}
use mathlib.Core.Path.{◌≡◌, sym, ap, ap₂, ◌∙◌}
use Rattle.edge.specs.Edge.{Edge, edge}
use Rattle.boundary.specs.Listed.{edge_in}
use Rattle.crossed.specs.Rows.{row_apart}
use Rattle.crossed.specs.NearRows.{nearing_there, nearing_later}
use Rattle.crossed.proofs.rows.list_near.Goals as goal
use Rattle.crossed.proofs.rows.list_near.Goals.{then-not-row_apart, else-not-row_apart}

pub loop-row-preserved : goal.loop-row-preserved
loop-row-preserved c =
    let less = c.loop-row-test.true in
    let told : c.row_apart.result ≡ row_apart (edge_in c.args.extents.now c.args.own) (edge_in c.args.extents.now (c.loop-row.row - 1)) =
    c.row_apart.ensures
    ∙ ap (λ (e : Edge). row_apart e (edge_in c.args.extents.now (c.loop-row.row - 1))) (ap₂ edge c.corner.ensures c.corner-in-loop-row.ensures) in
    elim c.if-not-row_apart.branch [
      | then-not-row_apart w ↦ nearing_there c.loop-row.invariant less w.first-is
      | else-not-row_apart w ↦ nearing_later c.loop-row.invariant less w.first-is (sym told ∙ w.if-not-row_apart.false)
    ]
