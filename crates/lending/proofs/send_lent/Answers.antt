-- `lending::send_lent` meets its contract: what is no account, or the message to the account taken in. Assumes nothing.
use mathlib.Core.Path.{ap, sym, ◌∙◌}
use Rattle.entitlements.specs.declared.Account.{Account}
use Rattle.entitlements.specs.Entitlements.{Answering, done, message}
use Rattle.lending.specs.LendingLaws.{lending_refuses, account_sends}
use Rattle.lending.proofs.send_lent.Goals as goal

pub returns-then-not-is_account : goal.returns-then-not-is_account
returns-then-not-is_account c =
    let a = c.args in
    sym
    (lending_refuses a.kind a.high.now a.low.now a.active.now a.last a.total a.text.now a.number
    (sym c.is_account.ensures ∙ c.if-not-is_account.true))

pub returns : goal.returns
returns c =
    let a = c.args in
    rw (c.copy_from_slice.ensures.after, c.copy_from_slice-2.ensures.after, c.copy_from_slice-3.ensures.after)
    (ap (λ (answer : Answering). done answer c.send-answered.result.account) c.answer_code.ensures
    ∙ c.send-answered.ensures
    ∙ ap (λ (account : Account). message a.kind account a.text.now a.number) c.taken_in.ensures
    ∙ sym
    (account_sends a.kind a.high.now a.low.now a.active.now a.last a.total a.text.now a.number
    (sym c.is_account.ensures ∙ c.if-not-is_account.false)))
