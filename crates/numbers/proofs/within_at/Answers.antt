-- `numbers::within_at` meets its contract: the word's end and the word's value are those that `withinAt` names.
-- Assumes nothing.
use mathlib.Core.Path.{sym, ap, ◌∙◌}
use Rattle.numbers.specs.Numbers.{ending_at}
use Rattle.numbers.specs.NumbersLaws.{number_past, number_within}
use Rattle.numbers.proofs.within_at.Goals as goal

pub returns-then-line-end : goal.returns-then-line-end
returns-then-line-end c =
    let asked = c.args in
    let ended = c.word_end-end in
    sym (number_past asked.digits asked.most asked.line.now asked.at ended.result ended.ensures c.if-line-end.true)

pub returns-in_err-value : goal.returns-in_err-value
returns-in_err-value c =
    let asked = c.args in
    let ended = c.word_end-end in
    let is = sym c.word_value.ensures ∙ c.in_err-value.was in
    c.from_residual.ensures
    ∙ sym (number_within asked.digits asked.most asked.line.now asked.at ended.result ended.ensures ∙ ap (ending_at ended.result) is)

pub returns : goal.returns
returns c =
    let asked = c.args in
    let ended = c.word_end-end in
    let is = sym c.word_value.ensures ∙ c.in_ok-value.was in
    sym (number_within asked.digits asked.most asked.line.now asked.at ended.result ended.ensures ∙ ap (ending_at ended.result) is)
