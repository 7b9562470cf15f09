-- `crossing::turns` meets its contract: the two crossings and the two ends, each counted as odd or even; where neither latitude is between
-- the ends, nothing is crossed, and the ends are parted both alike. Assumes nothing.
use mathlib.Core.Path.{◌≡◌, ap, ap₂, sym, ◌∙◌}
use mathlib.Core.Bool.{Bool, not, ◌&&◌, beq}
use lib.Dec.{leb}
use Rattle.facts.specs.Tests.{differ, unlike}
use Rattle.edge.specs.Edge.{edge, turns}
use Rattle.edge.specs.CrossesLaws.{turns_parted}
use Rattle.crossing.proofs.turns.Goals as goal

four : (a b c d : Bool) → not (beq (not (beq a b)) (not (beq c d))) ≡ differ (differ a b) (differ c d)
four a b c d = unlike (not (beq a b)) (not (beq c d)) ∙ ap₂ differ (unlike a b) (unlike c d)

pub returns-then-straddles : goal.returns-then-straddles
unfolding turns
returns-then-straddles c =
    let at-q = c.crosses_east-then-straddles in
    let at_p = c.crosses_east in
    let end = c.between-then-straddles in
    let start = c.between in
    four at_p.result at-q.result start.result end.result
    ∙ ap₂ differ (ap₂ differ at_p.ensures at-q.ensures) (ap₂ differ start.ensures end.ensures)

pub returns-then-parted : goal.returns-then-parted
returns-then-parted c =
    let told : let a = c.args in turns a.east a.p a.q (edge a.a a.b) ≡ (c.parted.result && differ (leb a.east.0 a.a.lon.0) (leb a.east.0 a.b.lon.0)) = let a = c.args in turns_parted a.east a.p a.q (edge a.a a.b) (sym c.straddles.ensures ∙ c.if-straddles.false) (sym c.straddles-else-straddles.ensures ∙ c.if-straddles-2.false) ∙ ap (λ (t : Bool). t && differ (leb a.east.0 a.a.lon.0) (leb a.east.0 a.b.lon.0)) (sym c.parted.ensures) in
    let start = c.past_east in
    let end = c.past_east-then-parted in
    rw (told, c.if-parted.true) (unlike start.result end.result ∙ ap₂ differ start.ensures end.ensures)

pub returns-else-parted : goal.returns-else-parted
returns-else-parted c =
    let told : let a = c.args in turns a.east a.p a.q (edge a.a a.b) ≡ (c.parted.result && differ (leb a.east.0 a.a.lon.0) (leb a.east.0 a.b.lon.0)) = let a = c.args in turns_parted a.east a.p a.q (edge a.a a.b) (sym c.straddles.ensures ∙ c.if-straddles.false) (sym c.straddles-else-straddles.ensures ∙ c.if-straddles-2.false) ∙ ap (λ (t : Bool). t && differ (leb a.east.0 a.a.lon.0) (leb a.east.0 a.b.lon.0)) (sym c.parted.ensures) in
    rw (told, c.if-parted.false)
