-- `change::cancellation` meets its contract, case by case. Assumes nothing.
use Prim.Native.Nat.{ℕ}
use mathlib.Core.Path.{ap, sym, ◌∙◌}
use Rattle.entitlements.specs.declared.Answer.TheVariants.{Cancelled}
use Rattle.entitlements.specs.Entitlements.{zeros}
use Rattle.change.specs.Change.{puts}
use Rattle.change.specs.ChangeLaws.{cancelling_cleared, cancelling_none}
use Rattle.change.proofs.cancellation.Goals as goal

pub returns-then-place-lt-PLACES : goal.returns-then-place-lt-PLACES
returns-then-place-lt-PLACES c =
    let asked = c.args in
    ap (λ (total : ℕ). puts Cancelled asked.number total asked.place zeros 0) c.lowered-less.ensures
    ∙ sym (cancelling_cleared asked.place asked.number asked.total c.if-place-lt-PLACES.true)

pub returns : goal.returns
returns c =
    let asked = c.args in
    c.keep.ensures ∙ sym (cancelling_none asked.place asked.number asked.total c.if-place-lt-PLACES.false)
