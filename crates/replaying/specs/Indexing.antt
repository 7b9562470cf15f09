-- The index that replay keeps beside the account: what is noted of a step, and that the slots find each code's place after the change that a
-- record makes. Assumes nothing.
use Rattle.std.specs.Prelude.{◌≡◌, ℕ, Bool, true, false, cond, not, List, ◌==◌, nat_le, nat_lt}
use Rattle.std.proofs.Math.Path.{refl}
use Rattle.std.proofs.Common.{ap, subst, sym, ltb-true}
use Rattle.halves.specs.declared.Halves.{Halves}
use Rattle.places.specs.Places.{places}
use Rattle.entitlements.specs.declared.Account.{Account}
use Rattle.entitlements.specs.declared.Answer.TheVariants as answer
use Rattle.entitlements.specs.declared.Kind.{Kind}
use Rattle.entitlements.specs.declared.Kind.TheVariants.{Activate, Cancel}
use Rattle.entitlements.specs.Entitlements.{place_of, free_place, raised, lowered, zeros}
use Rattle.entitlements.specs.Sound.{Sized}
use Rattle.index.specs.Index.{noted}
use Rattle.index.specs.IndexLaws.{Indexed, used_indexed, cleared_indexed, taken_indexed}
use Rattle.change.specs.declared.Change.{Change}
use Rattle.change.specs.declared.Step.{Step}
use Rattle.change.specs.Change.{step_to, stepped, keeps, puts, activating, cancelling, acting_at, change_at, change_by}
use Rattle.change.specs.ChangeLaws.{stepped_put}

-- The slots after a step: where an active code is put at a place, that is noted
abbrev pub noted_step : List ℕ → List ℕ → List ℕ → List ℕ → Step → List ℕ
noted_step slots high low active step =
    cond (step.active == 0) slots (noted slots high low active step.place step.code)

module _ {slots : List ℕ} {account : Account} (so : Indexed slots account) (sized : Sized account) (code : Halves) (number : ℕ) where
  -- The slots find each code's place after a change
  abbrev Still : Change → Type 0
  Still c = Indexed (noted_step slots account.high account.low account.active c.step) (stepped c.step account)

  -- what either message does
  acting_indexed : (kind : Kind) → Still (acting_at kind account.active (place_of account code) code number account.total)
  unfolding activating cancelling
  acting_indexed Activate = at (nat_lt (place_of account code) places) (nat_lt (free_place account) places) refl
    where
      step : Step
      step = step_to number (raised account.total) (free_place account) code 1

      at : (a f : Bool) → nat_lt (free_place account) places ≡ f
          → Still
          (cond a (keeps answer.Already number account.total)
          (cond f (puts answer.Activated number (raised account.total) (free_place account) code 1) (keeps answer.Full number account.total)))
      at true f k = used_indexed number so
      at false true k =
          subst (Indexed (noted slots account.high account.low account.active (free_place account) code))
          (sym (stepped_put step account (ltb-true (free_place account) places k)))
          (taken_indexed number so sized code (ap not k))
      at false false k = used_indexed number so
  acting_indexed Cancel = at (nat_lt (place_of account code) places) refl
    where
      step : Step
      step = step_to number (lowered account.total) (place_of account code) zeros 0

      at : (a : Bool) → nat_lt (place_of account code) places ≡ a
          → Still
          (cond a (puts answer.Cancelled number (lowered account.total) (place_of account code) zeros 0) (keeps answer.NotActive number account.total))
      at true e =
          subst (Indexed slots) (sym (stepped_put step account (ltb-true (place_of account code) places e))) (cleared_indexed number so sized code e)
      at false e = used_indexed number so

  -- and "old" too
  pub change_indexed : (kind : Kind) → Still (change_by kind account code number)
  unfolding change_at
  change_indexed kind = at (nat_le number account.last)
    where
      at : (o : Bool)
          → Still
          (cond o (keeps answer.Old account.last account.total)
          (acting_at kind account.active (place_of account code) code number account.total))
      at true = used_indexed account.last so
      at false = acting_indexed kind
