-- `change::change_at` meets its contract: "old", or what the message does at its code's place. Assumes nothing.
use native.Mathlib.Omega.{arith}
use mathlib.Core.Path.{sym, ◌∙◌}
use Rattle.change.specs.ChangeLaws.{at_old, at_acts}
use Rattle.change.proofs.change_at.Goals as goal

pub returns-then-number-account : goal.returns-then-number-account
returns-then-number-account c =
    let asked = c.args in
    let account = asked.account.now in
    c.keep.ensures
    ∙ sym
    (at_old asked.kind account.active account.last account.total asked.code asked.number asked.place
    (omega (arith, c.if-number-account.true)))

pub returns : goal.returns
returns c =
    let asked = c.args in
    let account = asked.account.now in
    c.act.ensures
    ∙ sym
    (at_acts asked.kind account.active account.last account.total asked.code asked.number asked.place
    (omega (arith, c.if-number-account.false)))
