-- No second answer meets the contracts of `change`: that of `put_step` leaves no choice for the arrays; the others are equations of the
-- answer itself. Assumes nothing.
use Rattle.entitlements.specs.Entitlements.{account_of}
use Rattle.std.specs.Prelude.{ℕ, ◌≡◌, List}
use Rattle.std.proofs.Common.{ap}
use Rattle.facts.specs.Once.{once}
use Rattle.entitlements.specs.declared.Account.{Account}
use Rattle.change.specs.declared.Change.{Change}
use Rattle.change.specs.declared.Step.{Step}

-- Two changes that meet the promise of `change_of` are the same, and two steps that meet that of `stay`
pub change_once : (d a b : Change) → a ≡ d → b ≡ d → a ≡ b
change_once d a b = once

pub stay_once : (s a b : Step) → a ≡ s → b ≡ s → a ≡ b
stay_once s a b = once

-- Arrays that meet the promise of `put_step` are the same
pub step_once : (account : Account) (last total : ℕ) (high low active other_high other_low other_active : List ℕ)
    → account_of high low active last total ≡ account → account_of other_high other_low other_active last total ≡ account
    → (high ≡ other_high) × (low ≡ other_low) × (active ≡ other_active)
step_once account last total high low active other_high other_low other_active e k =
    let same = once e k in
    (ap (λ (a : Account). a.high) same, ap (λ (a : Account). a.low) same, ap (λ (a : Account). a.active) same)
