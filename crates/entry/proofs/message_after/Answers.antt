-- `entry::message_after` meets its contract: at each return what was found at the number says what the line states. Assumes nothing.
use mathlib.Core.Path.{sym, ◌∙◌}
use Rattle.entry.specs.StatedLaws.{after_missed, after_ends, after_found}
use Rattle.entry.proofs.message_after.Goals as goal

pub returns-in_err-number : goal.returns-in_err-number
returns-in_err-number c =
    let asked = c.args in
    c.from_residual.ensures ∙ sym (after_missed asked.kind asked.line.now (sym c.long_at.ensures ∙ c.in_err-number.was))

pub returns-then-end-line : goal.returns-then-end-line
returns-then-end-line c =
    let asked = c.args in
    let at = sym c.long_at.ensures ∙ c.in_ok-number.was in
    sym (after_found asked.kind asked.line.now c.in_ok-number.number c.in_ok-number.end at c.if-end-line.true)

pub returns : goal.returns
returns c =
    let asked = c.args in
    let at = sym c.long_at.ensures ∙ c.in_ok-number.was in
    sym (after_ends asked.kind asked.line.now c.in_ok-number.number c.in_ok-number.end at c.if-end-line.false)
