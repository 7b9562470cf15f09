-- `page::code_by` meets its contract: the same text as before, or another. Assumes nothing.
use mathlib.Core.Path.{sym, ◌∙◌}
use Rattle.page.proofs.PageLaws.{known_same, known_other}
use Rattle.page.proofs.code_by.Goals as goal

pub returns-then-same_as : goal.returns-then-same_as
returns-then-same_as c =
    let asked = c.args in
    sym (known_same asked.earlier.now asked.known asked.text.now (sym c.same_as.ensures ∙ c.if-same_as.true))

pub returns : goal.returns
returns c =
    let asked = c.args in
    c.code_in.ensures
    ∙ sym (known_other asked.earlier.now asked.known asked.text.now (sym c.same_as.ensures ∙ c.if-same_as.false))
