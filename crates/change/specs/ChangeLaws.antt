-- The laws of what a message changes: an account after a step; the change does what processing does; and each of its cases.
-- Assumes nothing.
use Rattle.std.specs.Prelude.{ℕ, ◌≤◌, ◌<◌, ◌≡◌, Bool, cond, not, ◌||◌, List, eqb, leb, Some, None}
use Rattle.std.proofs.Math.Path.{refl}
use Rattle.std.proofs.Common.{ap, sym, ◌∙◌}
use Rattle.std.proofs.Math.Bool.{true, false, or-true}
use Rattle.std.proofs.Math.Dec.{ltb}
use borrow.Author.Tests.{lt-ltb, le-ltb, eq-eqb, ne_eqb, le-leb, lt-leb}
use Rattle.halves.specs.declared.Halves.{Halves}
use Rattle.halves.specs.Halves.{halves_in, readable, code_in}
use Rattle.halves.specs.HalvesLaws.{code_refused, code_read}
use Rattle.places.specs.Places.{places, is_free, lowest_place}
use Rattle.entitlements.specs.declared.Account.{Account}
use Rattle.entitlements.specs.declared.Kind.{Kind}
use Rattle.entitlements.specs.declared.Kind.TheVariants.{Activate, Cancel}
use Rattle.entitlements.specs.declared.Answer.TheVariants as answer
use Rattle.entitlements.specs.Entitlements.{
  account_of,
  place_of,
  free_place,
  put_at,
  raised,
  lowered,
  zeros,
  activation,
  cancellation,
  acting,
  largest,
  processing,
  done,
  refusal,
  old,
}
use Rattle.change.specs.declared.Step.{Step}
use Rattle.change.specs.Change.{stepped, keeps, puts, makes, activating, cancelling, acting_on, acting_at, change_at, change_by, change_of}

-- ---- a step that puts something at a place, and one that puts nothing

module _ (step : Step) (account : Account) where
  pub stepped_put : step.place < places → stepped step account
      ≡ put_at account step.place step.code step.active step.last step.total
  stepped_put h = rw (lt-ltb step.place places h)

  pub stepped_none : places ≤ step.place → stepped step account
      ≡ account_of account.high account.low account.active step.last step.total
  stepped_none h = rw (le-ltb step.place places h)

-- the last number and the total before a step do not count
pub stepped_last : (step : Step) (high low active : List ℕ) (last total other sum : ℕ)
    → stepped step (account_of high low active last total) ≡ stepped step (account_of high low active other sum)
stepped_last step high low active last total other sum = at (ltb step.place places) refl
  where
    at : (b : Bool) → ltb step.place places ≡ b
        → stepped step (account_of high low active last total) ≡ stepped step (account_of high low active other sum)
    at true e = rw e
    at false e = rw e

-- ---- a change does what processing does

module _ (account : Account) (code : Halves) (number : ℕ) where
  acting_makes : (kind : Kind) → makes (acting_on kind account code number) account ≡ acting kind account code number
  unfolding activating cancelling activation cancellation
  acting_makes Activate = at (ltb (place_of account code) places) (ltb (free_place account) places) refl refl
    where
      at : (a f : Bool) → ltb (place_of account code) places ≡ a → ltb (free_place account) places ≡ f
          → makes (activating account.active (place_of account code) code number account.total) account ≡ activation account code number
      at true f e k = rw e
      at false true e k = rw (e, k, k)
      at false false e k = rw (e, k)
  acting_makes Cancel = at (ltb (place_of account code) places) refl
    where
      at : (a : Bool) → ltb (place_of account code) places ≡ a
          → makes (cancelling (place_of account code) number account.total) account ≡ cancellation account code number
      at true e = rw (e, e)
      at false e = rw e

pub change_processing : (kind : Kind) (account : Account) (text : List ℕ) (number : ℕ)
    → makes (change_of kind account text number) account ≡ processing kind account text number
unfolding change_of processing
change_processing kind account text number = at (eqb number 0 || ltb largest number) (readable text) (leb number account.last)
  where
    at : (n r o : Bool)
        → makes
        (cond n (keeps answer.Number account.last account.total)
        (cond (not r) (keeps answer.Code account.last account.total)
        (cond o (keeps answer.Old account.last account.total) (acting_on kind account (halves_in text) number))))
        account
        ≡ cond n (done (refusal 41) account)
        (cond (not r) (done (refusal 42) account) (cond o (done old account) (acting kind account (halves_in text) number)))
    at true r o = refl
    at false false o = refl
    at false true true = refl
    at false true false = acting_makes account (halves_in text) number kind

-- ---- the cases of an activation and of a cancellation

module _ (active : List ℕ) (place : ℕ) (code : Halves) (number total : ℕ) where
  pub activating_already : place < places → activating active place code number total ≡ keeps answer.Already number total
  unfolding activating
  activating_already h = rw (lt-ltb place places h)

  module _ (h : places ≤ place) where
    pub activating_taken : lowest_place (is_free active) < places
        → activating active place code number total ≡ puts answer.Activated number (raised total) (lowest_place (is_free active)) code 1
    unfolding activating
    activating_taken k = rw (le-ltb place places h, lt-ltb (lowest_place (is_free active)) places k)

    pub activating_full : places ≤ lowest_place (is_free active) → activating active place code number total ≡ keeps answer.Full number total
    unfolding activating
    activating_full k = rw (le-ltb place places h, le-ltb (lowest_place (is_free active)) places k)

module _ (place number total : ℕ) where
  pub cancelling_cleared : place < places
      → cancelling place number total ≡ puts answer.Cancelled number (lowered total) place zeros 0
  unfolding cancelling
  cancelling_cleared h = rw (lt-ltb place places h)

  pub cancelling_none : places ≤ place → cancelling place number total ≡ keeps answer.NotActive number total
  unfolding cancelling
  cancelling_none h = rw (le-ltb place places h)

-- ---- the cases of a message of a code that was read

module _ (kind : Kind) (active : List ℕ) (last total : ℕ) (code : Halves) (number : ℕ) where
  -- "old"
  pub at_old : (place : ℕ) → number ≤ last → change_at kind active last total place code number ≡ keeps answer.Old last total
  unfolding change_at
  at_old place h = rw (le-leb number last h)

  -- wherever the code is
  pub old_anywhere : (place other : ℕ) → number ≤ last
      → change_at kind active last total place code number ≡ change_at kind active last total other code number
  old_anywhere place other h = at_old place h ∙ sym (at_old other h)

  -- and then the message acts
  pub at_acts : (place : ℕ) → last < number
      → change_at kind active last total place code number ≡ acting_at kind active place code number total
  unfolding change_at
  at_acts place h = rw (lt-leb number last h)

-- ---- the cases of a message

module _ (kind : Kind) (account : Account) (text : List ℕ) (number : ℕ) where
  -- 41: the number is 0, or too large
  pub change_zero : number ≡ 0 → change_of kind account text number ≡ keeps answer.Number account.last account.total
  unfolding change_of
  change_zero e = rw (eq-eqb number 0 e)

  pub change_large : largest < number → change_of kind account text number ≡ keeps answer.Number account.last account.total
  unfolding change_of
  change_large h = rw (lt-ltb largest number h, or-true)

  module _ (some : number ≡ 0 → ⊥) (most : number ≤ largest) where
    -- 42, where the text is no code
    pub change_refused : code_in text ≡ None → change_of kind account text number ≡ keeps answer.Code account.last account.total
    unfolding change_of
    change_refused e = rw (ne_eqb number 0 some, le-ltb largest number most, code_refused text e)

    -- "old"
    pub change_old : {code : Halves} → code_in text ≡ Some code → number ≤ account.last
        → change_of kind account text number ≡ keeps answer.Old account.last account.total
    unfolding change_of
    change_old e h = rw (ne_eqb number 0 some, le-ltb largest number most, (code_read text e).0, le-leb number account.last h)

    -- and then the message acts
    pub change_acts : {code : Halves} → code_in text ≡ Some code → account.last < number
        → change_of kind account text number ≡ acting_on kind account code number
    unfolding change_of
    change_acts e h =
        rw (ne_eqb number 0 some, le-ltb largest number most, (code_read text e).0, lt-leb number account.last h)
        (ap (λ (code : Halves). acting_on kind account code number) (code_read text e).1)

    -- where it is one, the message goes by its halves
    pub change_read : {code : Halves} → code_in text ≡ Some code → change_of kind account text number ≡ change_by kind account code number
    unfolding change_of change_at
    change_read e =
        rw (ne_eqb number 0 some, le-ltb largest number most, (code_read text e).0)
        (ap (λ (code : Halves). change_by kind account code number) (code_read text e).1)
