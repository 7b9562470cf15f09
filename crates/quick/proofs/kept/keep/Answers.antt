-- `quick::kept::keep` meets its contract: the edges put behind the others, with those that meet of the ones still to be seen. Assumes nothing.
use Prim.Native.Nat.{◌/◌, ◌<◌}
use native.Mathlib.Omega.{arith}
use mathlib.Core.Path.{◌≡◌, ap, sym, ◌∙◌}
use mathlib.Core.Bool.{Bool, not}
use lib.ListN.{length}
use borrow.Author.Tests.{not-true, not-false}
use Rattle.edge.specs.Edge.{Edge, edge, beyond, misses}
use Rattle.edge.specs.MissesLaws.{misses_beyond}
use Rattle.boundary.specs.Listed.{edge_in}
use Rattle.quick.specs.HalfLaws.{moved_missed, moved_added, moved_as}
use Rattle.quick.proofs.kept.keep.Goals as goal
use Rattle.quick.proofs.kept.keep.Goals.{
  then-not-beyond+then-meets,
  else-not-beyond,
  else-not-beyond-via-then-not-beyond+else-meets,
  else-not-beyond-via-else-not-beyond,
}

pub loop-i-preserved : goal.loop-i-preserved
loop-i-preserved c =
    let place : c.loop-i.end < length c.loop-i.room / 4 = let inv = c.loop-i.invariant in omega (arith, c.loop-i-test.true, inv.few, inv.long, c.requires.1) in
    let seen : edge c.edge_at-e.result.a c.edge_at-e.result.b ≡ edge_in c.loop-i.room c.loop-i.i = c.edge_at-e.ensures in
    let beyond_told : beyond (edge_in c.loop-i.room c.loop-i.i) c.args.ground ≡ c.beyond.result = sym (c.beyond.ensures ∙ ap (λ (e : Edge). beyond e c.args.ground) seen) in
    let meets_told : (result : Bool) → result ≡ not (misses (edge c.edge_at-e.result.a c.edge_at-e.result.b) c.args.ground)
    → not (misses (edge_in c.loop-i.room c.loop-i.i) c.args.ground) ≡ result =
    λ result e. sym (e ∙ ap (λ (x : Edge). not (misses x c.args.ground)) seen) in
    let m = c.loop-i.invariant in
    elim c.if-not-beyond.branch [
      | then-not-beyond+then-meets w ↦ moved_as (w.room-is ∙ w.put_edge.ensures) w.end-is
          (moved_added m c.loop-i-test.true place (not-true _ (meets_told w.meets.result w.meets.ensures ∙ w.if-meets.true)) seen)
      | else-not-beyond w ↦ moved_as w.room-is w.end-is
          (moved_missed m c.loop-i-test.true
          (elim w.else-not-beyond.branch [
            | else-not-beyond-via-then-not-beyond+else-meets v ↦ not-false _ (meets_told v.meets.result v.meets.ensures ∙ v.if-meets.false)
            | else-not-beyond-via-else-not-beyond v ↦ misses_beyond _ _ (beyond_told ∙ v.if-not-beyond.false)
          ]))
    ]
