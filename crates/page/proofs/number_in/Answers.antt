-- `page::number_in` meets its contract: 0 where a byte is no letter, and else the number. Assumes nothing.
use native.Mathlib.Omega.{arith}
use mathlib.Core.Path.{sym, ◌∙◌}
use Rattle.page.proofs.PageLaws.{number_other, number_all}
use Rattle.page.proofs.number_in.Goals as goal

pub returns-then-first_other-text : goal.returns-then-first_other-text
returns-then-first_other-text c =
    let text = c.args.text.now in
    sym (number_other text (omega (arith, c.first_other.ensures, c.if-first_other-text.true)))

pub returns : goal.returns
returns c =
    let text = c.args.text.now in
    c.number.ensures ∙ sym (number_all text (omega (arith, c.first_other.ensures, c.if-first_other-text.false)))
