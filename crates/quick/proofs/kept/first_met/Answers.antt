-- `quick::kept::first_met` meets its contract: those before place i miss. Assumes nothing.
use mathlib.Core.Path.{◌≡◌, ap, sym, ◌∙◌}
use mathlib.Core.Bool.{true}
use borrow.Author.Tests.{not-false}
use Rattle.edge.specs.Edge.{Edge, edge, misses}
use Rattle.edge.specs.MissesLaws.{misses_beyond}
use Rattle.quick.specs.HalfLaws.{missed_again}
use Rattle.quick.proofs.kept.first_met.Goals as goal
use Rattle.quick.proofs.kept.first_met.Goals.{else-not-beyond-via-then-not-beyond+else-meets, else-not-beyond-via-else-not-beyond}

pub loop-i-preserved : goal.loop-i-preserved
loop-i-preserved c =
    let told : misses (edge c.edge_at-e.result.a c.edge_at-e.result.b) c.args.half.ground ≡ true =
    elim c.else-not-beyond.branch [
      | else-not-beyond-via-then-not-beyond+else-meets w ↦ not-false _ (sym w.meets.ensures ∙ w.if-meets.false)
      | else-not-beyond-via-else-not-beyond w ↦ misses_beyond _ _ (sym c.beyond.ensures ∙ w.if-not-beyond.false)
    ] in
    missed_again c.loop-i.invariant (ap (λ (e : Edge). misses e c.args.half.ground) (sym c.edge_at-e.ensures) ∙ told)
