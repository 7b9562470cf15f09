-- `crossing::crosses_east` meets its contract: exactly one end is at or below, and the edge passes east. Assumes nothing.
use mathlib.Core.Path.{sym, ◌∙◌}
use Rattle.edge.specs.CrossesLaws.{crosses_told, same_none}
use Rattle.edge.specs.Edge.{edge}
use Rattle.crossing.proofs.crosses_east.Goals as goal

pub returns-then-straddles : goal.returns-then-straddles
returns-then-straddles c =
    let a = c.args in
    c.passes_east.ensures ∙ sym (crosses_told a.a a.b a.p (sym c.straddles.ensures ∙ c.if-straddles.true))

pub returns-else-straddles : goal.returns-else-straddles
returns-else-straddles c =
    let a = c.args in
    c.if-straddles.false ∙ sym (same_none (edge a.a a.b) a.p (sym c.straddles.ensures ∙ c.if-straddles.false))
