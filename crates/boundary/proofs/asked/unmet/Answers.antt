-- `boundary::asked::unmet` meets its contract: every edge before the loop misses. Assumes nothing.
use borrow.Author.Rules.{rules}
use mathlib.Core.Path.{◌≡◌, ap, ap₂, ◌∙◌}
use Rattle.edge.specs.Edge.{Edge, edge, misses}
use Rattle.boundary.specs.Listed.{edge_in}
use Rattle.boundary.specs.ListedLaws.{unmet_begin, unmet_met, unmet_again, unmet_end}
use Rattle.boundary.proofs.asked.unmet.Goals as goal

pub loop-i-init : goal.loop-i-init
loop-i-init c = unmet_begin

pub returns-then-not-misses : goal.returns-then-not-misses
returns-then-not-misses c =
    let told : c.misses.result ≡ misses (edge_in c.args.edges.now c.loop-i.i) c.args.r = c.misses.ensures ∙ ap (λ (e : Edge). misses e c.args.r) (ap₂ edge c.corner.ensures c.corner-in-loop-i.ensures) in
    search (rules, unmet_met, told)

pub loop-i-preserved : goal.loop-i-preserved
loop-i-preserved c =
    let told : c.misses.result ≡ misses (edge_in c.args.edges.now c.loop-i.i) c.args.r = c.misses.ensures ∙ ap (λ (e : Edge). misses e c.args.r) (ap₂ edge c.corner.ensures c.corner-in-loop-i.ensures) in
    search (rules, unmet_again, told)

pub returns : goal.returns
returns c = unmet_end c.loop-i.invariant c.loop-i-test.false
