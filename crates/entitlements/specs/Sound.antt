-- A sound account: 256 places, and nothing that 40 refuses. The empty account is one, and a message to one is processed.
-- Assumes nothing.
use Rattle.std.specs.Prelude.{ℕ, ◌≤◌, ◌<◌, ◌≡◌, Bool, ◌&&◌, ◌||◌, List, ltb, eqb, length, get_or}
use Rattle.std.proofs.Common.{arith, ◌∙◌, true≢false}
use Rattle.std.proofs.Math.Path.{refl, ap, sym}
use Rattle.std.proofs.Math.Bool.{true, false, not}
use Rattle.std.proofs.lemmas.List.{get_or-replicate}
use borrow.Author.Tests.{eq-eqb, eqb-true, le-ltb, ltb-false, not-false}
use Rattle.facts.specs.Tests.{neither, none_of, fails_left}
use Rattle.facts.specs.Numbers.{Compared, less, same, more, compared, not_above}
use Rattle.halves.specs.declared.Halves.{Halves}
use Rattle.halves.specs.Halves.{same_code, is_code}
use Rattle.places.specs.Places.{places, is_free, count_active}
use Rattle.places.specs.PlacesLaws.{count_free}
use Rattle.entitlements.specs.declared.Account.{Account}
use Rattle.entitlements.specs.declared.Kind.{Kind}
use Rattle.entitlements.specs.Entitlements.{
  empty,
  code_at,
  active_at,
  place_of,
  is_active,
  done,
  refusal,
  largest,
  processing,
  twice_at,
  no_code_at,
  somewhere,
  miscounted,
  no_account,
  message,
}
use Rattle.entitlements.specs.Active.{nowhere_at, nowhere, place_active, place_least, holds_at}

-- 256 places
pub record Sized (account : Account) : Type 0 where
  pub highs : length account.high ≡ places
  pub lows : length account.low ≡ places
  pub actives : length account.active ≡ places

-- A sound account: 256 places, no code active twice, each active place with a code that reading accepts, no last number too large, and
-- a total that is the count
pub record Sound (account : Account) : Type 0 where
  pub sized : Sized account
  pub single : (i j : ℕ) → i < places → j < places → active_at account i ≡ true → active_at account j ≡ true
      → code_at account i ≡ code_at account j → i ≡ j
  pub read : (i : ℕ) → i < places → active_at account i ≡ true → is_code (code_at account i) ≡ true
  pub within : account.last ≤ largest
  pub counted : account.total ≡ count_active account.active

module _ {account : Account} where
  -- An account of 256 places is sound where 40 does not come
  pub accepted_sound : Sized account → no_account account ≡ false → Sound account
  unfolding no_account
  accepted_sound sized e =
      let first = neither (somewhere (twice_at account)) (somewhere (no_code_at account) || (ltb largest account.last || miscounted account)) e in
      let second = neither (somewhere (no_code_at account)) (ltb largest account.last || miscounted account) first.1 in
      let third = neither (ltb largest account.last) (miscounted account) second.1 in
      record {
        sized = sized;
        single = λ i j h k a b s. at first.0 i j h k a b s (compared i j);
        read = λ i h a. not-false (is_code (code_at account i)) (left a ∙ nowhere_at (no_code_at account) second.0 i h);
        within = ltb-false largest account.last third.0;
        counted = eqb-true account.total (count_active account.active) (not-false (eqb account.total (count_active account.active)) third.1);
      }
    where
      left : {a b : Bool} → a ≡ true → b ≡ (a && b)
      left {b = b} e = sym (ap (λ (t : Bool). t && b) e)

      -- The higher of two places with one code would be refused
      higher : somewhere (twice_at account) ≡ false → (i j : ℕ) → i < j → j < places → active_at account i ≡ true → active_at account j ≡ true
          → code_at account i ≡ code_at account j → ⊥
      higher n i j l k a b s =
          let q : ℕ = place_of account (code_at account j) in
          let last : j ≤ q = ltb-false q j (left b ∙ nowhere_at (twice_at account) n j k) in
          let none : ⊥ = omega (arith, l, last, place_least account (code_at account j) i a s) in
          none

      at : somewhere (twice_at account) ≡ false → (i j : ℕ) → i < places → j < places → active_at account i ≡ true → active_at account j ≡ true
          → code_at account i ≡ code_at account j → Compared i j → i ≡ j
      at n i j h k a b s (less l) = absurd (higher n i j l k a b s)
      at n i j h k a b s (same e) = e
      at n i j h k a b s (more l) = absurd (higher n j i l h b a (sym s))

  -- and 40 does not come where it is
  pub sound_accepted : Sound account → no_account account ≡ false
  unfolding no_account
  sound_accepted sound =
      none_of
      (nowhere (twice_at account) (λ i h. twice i h (active_at account i) refl))
      (none_of
      (nowhere (no_code_at account) (λ i h. unread i h (active_at account i) refl))
      (none_of
      (le-ltb largest account.last sound.within)
      (ap not (eq-eqb account.total (count_active account.active) sound.counted))))
    where
      unread : (i : ℕ) → i < places → (a : Bool) → active_at account i ≡ a → (a && not (is_code (code_at account i))) ≡ false
      unread i h true e = ap not (sound.read i h e)
      unread i h false e = refl

      twice : (i : ℕ) → i < places → (a : Bool) → active_at account i ≡ a → (a && ltb (place_of account (code_at account i)) i) ≡ false
      twice i h true e =
          let q : ℕ = place_of account (code_at account i) in
          le-ltb q i
          (not_above
          (λ l.
          let found = place_active account (code_at account i) (omega (arith, l, h)) in
          let one : q ≡ i = sound.single q i (omega (arith, l, h)) h found.0 e found.1 in
          omega (arith, one, l)))
      twice i h false e = refl

-- ---- the empty account

-- Each place of it is free
empty_free : (i : ℕ) → i < places → is_free empty.active i ≡ true
empty_free i h = eq-eqb (get_or empty.active i 0) 0 (get_or-replicate places i 0 0 h)

-- and so not active
pub empty_inactive : (i : ℕ) → i < places → active_at empty i ≡ false
empty_inactive i h = ap not (empty_free i h)

-- None is counted, and its total says so
pub empty_count : count_active empty.active ≡ 0
empty_count = count_free empty.active empty_free

-- It is sound
pub empty_sound : Sound empty
empty_sound = record {
  sized = record { highs = refl; lows = refl; actives = refl };
  single = λ i j h k a b e. absurd (true≢false (sym a ∙ empty_inactive i h));
  read = λ i h a. absurd (true≢false (sym a ∙ empty_inactive i h));
  within = omega arith;
  counted = sym empty_count;
}

-- No code is active in it
pub empty_active : (code : Halves) → is_active empty code ≡ false
empty_active code = nowhere (holds_at empty code) (λ i h. fails_left (same_code (code_at empty i) code) (empty_inactive i h))

-- ---- messages to a sound account

module _ (kind : Kind) (account : Account) (text : List ℕ) (number : ℕ) where
  -- Where 40 comes, the account is as it went in
  pub message_refused : no_account account ≡ true → message kind account text number ≡ done (refusal 40) account
  unfolding message
  message_refused e = rw e

  -- and where it does not, the message is processed
  pub message_accepted : no_account account ≡ false → message kind account text number ≡ processing kind account text number
  unfolding message
  message_accepted e = rw e

  -- which it is in a sound account
  pub message_processing : Sound account → message kind account text number ≡ processing kind account text number
  message_processing sound = message_accepted (sound_accepted sound)
