-- `message::send` meets its contract: 40, or the change that the message makes. Assumes nothing.
use mathlib.Core.Path.{ap, sym, ◌∙◌}
use Rattle.entitlements.specs.declared.Account.{Account}
use Rattle.entitlements.specs.Entitlements.{says, done}
use Rattle.entitlements.specs.Sound.{message_refused, message_accepted}
use Rattle.change.specs.declared.Change.{Change}
use Rattle.change.specs.Change.{makes}
use Rattle.change.specs.ChangeLaws.{change_processing}
use Rattle.message.proofs.send.Goals as goal

pub returns-then-no_account : goal.returns-then-no_account
returns-then-no_account c =
    let asked = c.args in
    let refused = sym c.no_account.ensures ∙ c.if-no_account.true in
    sym (message_refused asked.kind asked.account asked.text.now asked.number refused)

pub returns : goal.returns
returns c =
    let asked = c.args in
    let checked = sym c.no_account.ensures
    ∙ c.if-no_account.false in
    ap (λ (account : Account). done (says c.change_of-change.result.answer) account) c.stepped.ensures
    ∙ ap (λ (made : Change). makes made asked.account) c.change_of-change.ensures
    ∙ change_processing asked.kind asked.account asked.text.now asked.number
    ∙ sym (message_accepted asked.kind asked.account asked.text.now asked.number checked)
