-- The laws of what is active in an account: a test that passes somewhere, a code that is the same, the place of an active code, and
-- full, which is where all places are active. Assumes nothing.
use Rattle.std.specs.Prelude.{ℕ, ◌≤◌, ◌<◌, ◌≡◌, refl, ◌≢◌, Bool, true, false, ◌&&◌, ◌||◌, eqb}
use Rattle.std.proofs.Common.{arith, ap, ap₂, sym, subst, ◌∙◌, eqb-true, eq-eqb, ne_eqb, lt-ltb, ltb-true, ltb-false}
use Rattle.std.proofs.Math.Decide.{ℕ_discrete}
use Rattle.std.proofs.lemmas.Bool.{not-true, not-false}
use Rattle.facts.specs.Tests.{both, same_truth}
use Rattle.halves.specs.declared.Halves.{Halves}
use Rattle.halves.specs.Halves.{halves_by, same_code}
use Rattle.places.specs.Places.{places, is_free, holds, lowest_place, count_active}
use Rattle.places.specs.PlacesLaws.{lowest_before, lowest_passes, lowest_least, count_all, count_below_lem}
use Rattle.entitlements.specs.declared.Account.{Account}
use Rattle.entitlements.specs.Entitlements.{code_at, active_at, place_of, is_active, free_place, is_full, somewhere}

-- ---- a test that passes somewhere

module _ (test : ℕ → Bool) where
  -- It passes at a place
  pub somewhere_at : somewhere test ≡ true → (i : ℕ) × (i < places) × (test i ≡ true)
  somewhere_at e =
      let within : lowest_place test < places = ltb-true (lowest_place test) places e in
      (lowest_place test, within, lowest_passes test within)

  -- and what passes at a place passes somewhere
  pub at_somewhere : (i : ℕ) → i < places → test i ≡ true → somewhere test ≡ true
  at_somewhere i h e = lt-ltb (lowest_place test) places (omega (arith, h, lowest_least test i e))

  -- What passes nowhere fails at each place
  pub nowhere_at : somewhere test ≡ false → (i : ℕ) → i < places → test i ≡ false
  nowhere_at e i h = lowest_before test i (omega (arith, h, ltb-false (lowest_place test) places e))

  -- and what fails at each place passes nowhere
  pub nowhere : ((i : ℕ) → i < places → test i ≡ false) → somewhere test ≡ false
  nowhere fails = at (somewhere test) refl
    where
      at : (b : Bool) → somewhere test ≡ b → b ≡ false
      at true e = let found = somewhere_at e in sym found.2 ∙ fails found.0 found.1
      at false e = refl

-- Two tests that agree at each place pass somewhere together
pub somewhere_same : (one other : ℕ → Bool) → ((i : ℕ) → i < places → one i ≡ other i) → somewhere one ≡ somewhere other
somewhere_same one other same =
    same_truth
    (λ e. let found = somewhere_at one e in
    at_somewhere other found.0 found.1 (sym (same found.0 found.1) ∙ found.2))
    (λ e. let found = somewhere_at other e in
    at_somewhere one found.0 found.1 (same found.0 found.1 ∙ found.2))

-- Where one test fails at a place and another agrees with it at every other, the second passes somewhere where it passes there or the
-- first passes somewhere
pub somewhere_but : (one other : ℕ → Bool) (p : ℕ) → p < places → one p ≡ false → ((i : ℕ) → i ≢ p → other i ≡ one i)
    → somewhere other ≡ (other p || somewhere one)
somewhere_but one other p h off same = at (other p) refl
  where
    agree : other p ≡ false → (i : ℕ) → Dec (i ≡ p) → other i ≡ one i
    agree e i (yes s) = subst (λ (j : ℕ). other j ≡ one j) (sym s) (e ∙ sym off)
    agree e i (no n) = same i n

    at : (b : Bool) → other p ≡ b → somewhere other ≡ (b || somewhere one)
    at true e = at_somewhere other p h e
    at false e = somewhere_same other one (λ i k. agree e i (ℕ_discrete i p))

-- ---- codes compared

-- Codes that are the same by the test are equal
pub same_code_lem : (a b : Halves) → same_code a b ≡ true → a ≡ b
same_code_lem a b e =
    let parts = both (eqb a.high b.high) (eqb a.low b.low) e in
    ap₂ halves_by (eqb-true a.high b.high parts.0) (eqb-true a.low b.low parts.1)

-- and the other way round
pub code_same : (a b : Halves) → a ≡ b → same_code a b ≡ true
code_same a b e =
    ap₂ ◌&&◌ (eq-eqb a.high b.high (ap (λ (h : Halves). h.high) e)) (eq-eqb a.low b.low (ap (λ (h : Halves). h.low) e))

-- ---- the place of an active code

module _ (account : Account) (code : Halves) where
  -- Whether it is active at a place
  abbrev pub holds_at : ℕ → Bool
  holds_at = holds account.high account.low account.active code

  -- Where it has a place, this is active and has it
  pub place_active : place_of account code < places
      → (active_at account (place_of account code) ≡ true) × (code_at account (place_of account code) ≡ code)
  place_active h =
      let i : ℕ = place_of account code in
      let parts = both (active_at account i) (same_code (code_at account i) code) (lowest_passes holds_at h) in
      (parts.0, same_code_lem (code_at account i) code parts.1)

  -- Its place is at most any active place that has it
  pub place_least : (i : ℕ) → active_at account i ≡ true → code_at account i ≡ code → place_of account code ≤ i
  place_least i a e = lowest_least holds_at i (ap₂ ◌&&◌ a (code_same (code_at account i) code e))

  -- so a code that has an active place is active
  pub at_active : (i : ℕ) → i < places → active_at account i ≡ true → code_at account i ≡ code → is_active account code ≡ true
  at_active i h a e = lt-ltb (place_of account code) places (omega (arith, h, place_least i a e))

-- ---- full, and the lowest free place

module _ (account : Account) where
  -- Where the account is not full, there is a lowest free place
  pub free_within : is_full account ≡ false → free_place account < places
  free_within e = ltb-true (free_place account) places (not-false (somewhere (is_free account.active)) e)

  -- which is free
  pub free_free : is_full account ≡ false → is_free account.active (free_place account) ≡ true
  free_free e = lowest_passes (is_free account.active) (free_within e)

  -- Then less than 256 are active
  pub count_within : is_full account ≡ false → count_active account.active < places
  count_within e = count_below_lem account.active (free_place account) (free_within e) (free_free e)

  -- so it is full where 256 places are
  pub full_count : is_full account ≡ eqb (count_active account.active) places
  full_count = at (is_full account) refl
    where
      at : (b : Bool) → is_full account ≡ b → b ≡ eqb (count_active account.active) places
      at true e =
          let none = nowhere_at (is_free account.active) (not-true (somewhere (is_free account.active)) e) in
          sym (eq-eqb (count_active account.active) places (count_all account.active none))
      at false e = sym (ne_eqb (count_active account.active) places (λ k. omega (arith, k, count_within e)))
