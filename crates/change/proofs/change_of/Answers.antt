-- `change::change_of` meets its contract, case by case. Assumes nothing.
use mathlib.Core.Path.{sym, ◌∙◌}
use Rattle.change.specs.ChangeLaws.{change_zero, change_large, change_refused, change_read}
use Rattle.change.proofs.change_of.Goals as goal
use Rattle.change.proofs.change_of.Goals.{then-number-eq0-via-then-number-eq0, then-number-eq0-via-else-number-eq0+then-number-gt-LARGEST}

pub returns-then-number-eq0 : goal.returns-then-number-eq0
returns-then-number-eq0 c =
    let asked = c.args in
    c.keep.ensures
    ∙ sym
    (elim c.then-number-eq0.branch [
      | then-number-eq0-via-then-number-eq0 w ↦ change_zero asked.kind asked.account.now asked.text.now asked.number w.if-number-eq0.true
      | then-number-eq0-via-else-number-eq0+then-number-gt-LARGEST w ↦ change_large asked.kind asked.account.now asked.text.now asked.number w.if-number-gt-LARGEST.true
    ])

pub returns-in_default : goal.returns-in_default
returns-in_default c =
    let asked = c.args in
    let refused = sym c.code_in.ensures ∙ c.in_default.is in
    c.keep-in_default.ensures
    ∙ sym
    (change_refused asked.kind asked.account.now asked.text.now asked.number c.if-number-eq0.false c.if-number-gt-LARGEST.false refused)

pub returns : goal.returns
returns c =
    let asked = c.args in
    let read = sym c.code_in.ensures ∙ c.in-Some.is in
    c.change_by.ensures
    ∙ sym
    (change_read asked.kind asked.account.now asked.text.now asked.number c.if-number-eq0.false c.if-number-gt-LARGEST.false read)
