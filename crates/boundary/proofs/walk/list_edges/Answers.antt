-- `boundary::walk::list_edges` meets its contract: what is listed so far, with the edges from the places left, is all. Assumes nothing.
use mathlib.Core.Path.{refl, ap, ap₂, ◌∙◌}
use mathlib.Core.Bool.{cond}
use Prim.Native.Nat.{◌+◌}
use lib.ListN.{set}
use Rattle.corners.specs.Corners.{corner_at}
use Rattle.edge.specs.Edge.{Edge, edge, no_length}
use Rattle.boundary.specs.Listed.{with_edge}
use Rattle.boundary.specs.ListedLaws.{listing_begin, listing_again, listing_as}
use Rattle.boundary.proofs.walk.list_edges.Goals as goal

pub loop-i-init : goal.loop-i-init
loop-i-init c = listing_begin _ _ _

pub loop-i-preserved : goal.loop-i-preserved
loop-i-preserved c =
    let a = c.args in
    let from = ap₂ edge c.corner.ensures
    (c.corner-in-loop-i.ensures ∙ ap (corner_at a.numbers.now) c.place_after.ensures) in
    let l = listing_again c.loop-i.invariant c.loop-i-test.true c.if-edges-count.false c.if-places-count.false
    _ refl in
    let was = c.loop-i in
    listing_as l
    (c.list_edge-listed.ensures.edges_after ∙ ap (λ (e : Edge). cond (no_length e) was.edges (with_edge was.edges was.listed e)) from)
    (c.list_edge-listed.ensures.places_after ∙ ap (λ (e : Edge). cond (no_length e) was.places (set was.places was.listed was.i)) from)
    (c.list_edge-listed.ensures.value ∙ ap (λ (e : Edge). cond (no_length e) was.listed (was.listed + 1)) from)
