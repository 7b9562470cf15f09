-- `change::activation` meets its contract, case by case. Assumes nothing.
use Prim.Native.Nat.{ℕ, ◌<◌, ◌≤◌}
use mathlib.Core.Path.{◌≡◌, ap₂, sym, subst, ◌∙◌}
use Rattle.places.specs.Places.{places}
use Rattle.entitlements.specs.declared.Answer.TheVariants.{Activated, Already}
use Rattle.change.specs.Change.{keeps, puts}
use Rattle.change.specs.ChangeLaws.{activating_already, activating_taken, activating_full}
use Rattle.change.proofs.activation.Goals as goal

pub returns-then-place-lt-PLACES : goal.returns-then-place-lt-PLACES
returns-then-place-lt-PLACES c =
    let asked = c.args in
    let already : c.keep.result ≡ keeps Already asked.number asked.account.now.total = c.keep.ensures in
    already ∙ sym (activating_already asked.account.now.active asked.place asked.code asked.number asked.account.now.total c.if-place-lt-PLACES.true)

pub returns-then-free-lt-PLACES : goal.returns-then-free-lt-PLACES
returns-then-free-lt-PLACES c =
    let asked = c.args in
    let found = subst (λ (i : ℕ). i < places) c.free_place-free.ensures c.if-free-lt-PLACES.true in
    ap₂ (λ (i total : ℕ). puts Activated asked.number total i asked.code 1) c.free_place-free.ensures c.raised-more.ensures
    ∙ sym (activating_taken asked.account.now.active asked.place asked.code asked.number asked.account.now.total c.if-place-lt-PLACES.false found)

pub returns : goal.returns
returns c =
    let asked = c.args in
    let none = subst (λ (i : ℕ). places ≤ i) c.free_place-free.ensures c.if-free-lt-PLACES.false in
    c.keep-2.ensures
    ∙ sym (activating_full asked.account.now.active asked.place asked.code asked.number asked.account.now.total c.if-place-lt-PLACES.false none)
