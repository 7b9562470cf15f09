-- `change::change_by` meets its contract: the place is the code's, or the message is "old" wherever its code is. Assumes nothing.
use Prim.Native.Nat.{ℕ}
use native.Mathlib.Omega.{arith}
use mathlib.Core.Path.{ap, ◌∙◌}
use Rattle.entitlements.specs.Entitlements.{place_of}
use Rattle.change.specs.Change.{change_at}
use Rattle.change.specs.ChangeLaws.{old_anywhere}
use Rattle.change.proofs.change_by.Goals as goal
use Rattle.change.proofs.change_by.Goals.{then-number-account, else-number-account}

pub returns : goal.returns
returns c =
    let asked = c.args in
    let account = asked.account.now in
    let anywhere =
    old_anywhere asked.kind account.active account.last account.total asked.code asked.number c.if-number-account.place (place_of account asked.code) in
    c.change_at.ensures
    ∙ elim c.if-number-account.branch [
      | then-number-account w ↦ ap
          (λ (place : ℕ). change_at asked.kind account.active account.last account.total place asked.code asked.number)
          (w.place-is ∙ w.code_place-place.ensures)
      | else-number-account w ↦ anywhere (omega (arith, w.if-number-account.false))
    ]
