-- `page::same_as` meets its contract. Assumes nothing.
use Rattle.std.proofs.Common.{refl, eq-eqb, ◌∙◌}
use Rattle.page.proofs.PageLaws.{texts_compared}
use Rattle.page.proofs.same_as.Goals as goal

pub returns-then-earlier-eq20 : goal.returns-then-earlier-eq20
returns-then-earlier-eq20 c =
    let asked = c.args in
    c.eq.ensures ∙ texts_compared asked.text.now asked.earlier.now ∙ rw (eq-eqb _ 20 c.if-earlier-eq20.true) refl
