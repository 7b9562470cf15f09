-- What changes in a sound account when a number is used up, a code takes a place or a code's place is cleared: which codes are active,
-- how many, its total, and that it stays sound. Assumes nothing.
use Rattle.std.specs.Prelude.{ℕ, suc, ◌≤◌, ◌<◌, ◌≡◌, refl, ◌≢◌, Bool, true, false, not, ◌&&◌, ◌||◌, eqb}
use Rattle.std.proofs.Common.{arith, ap, ap₂, sym, ◌∙◌, true≢false, length-set, get_or-set_same, get_or-set_other, lt-ltb, ltb-true}
use Rattle.std.proofs.Math.Decide.{ℕ_discrete}
use Rattle.std.proofs.lemmas.Bool.{not-true}
use Rattle.facts.specs.Tests.{both, fails_left, fails_right}
use Rattle.halves.specs.declared.Halves.{Halves}
use Rattle.halves.specs.Halves.{halves_by, same_code, is_code}
use Rattle.places.specs.Places.{places, is_free, count_active}
use Rattle.places.specs.PlacesLaws.{count_taken, count_cleared}
use Rattle.entitlements.specs.declared.Account.{Account}
use Rattle.entitlements.specs.Entitlements.{
  code_at,
  active_at,
  place_of,
  is_active,
  free_place,
  is_full,
  used,
  put_at,
  raised,
  lowered,
  taken,
  zeros,
  cleared,
  largest,
}
use Rattle.entitlements.specs.Active.{
  somewhere_but,
  nowhere,
  same_code_lem,
  holds_at,
  place_active,
  at_active,
  free_within,
  free_free,
  count_within,
}
use Rattle.entitlements.specs.Sound.{Sized, Sound}

-- ---- a number used up

-- The account stays sound; what is active is the same by definition
pub used_sound : {account : Account} (number : ℕ) → number ≤ largest → Sound account → Sound (used number account)
used_sound number h sound = record {
  sized = record { highs = sound.sized.highs; lows = sound.sized.lows; actives = sound.sized.actives };
  single = sound.single;
  read = sound.read;
  within = h;
  counted = sound.counted;
}

-- ---- another content of a place

module _ (number total : ℕ) (account : Account) (p : ℕ) (code : Halves) (on : ℕ) where
  -- The account with this content of the place, this total, and a number used up
  abbrev pub placed : Account
  placed = put_at account p code on number total

  -- It has as many places
  pub placed_sized : Sized account → Sized placed
  placed_sized sized = record {
    highs = length-set account.high p code.high ∙ sized.highs;
    lows = length-set account.low p code.low ∙ sized.lows;
    actives = length-set account.active p on ∙ sized.actives;
  }

  -- The place is as it was put
  pub placed_active : Sized account → p < places → active_at placed p ≡ not (eqb on 0)
  placed_active sized h = ap (λ (a : ℕ). not (eqb a 0)) (get_or-set_same account.active p on 0 (omega (arith, h, sized.actives)))

  pub placed_code : Sized account → p < places → code_at placed p ≡ code
  placed_code sized h =
      ap₂ halves_by
      (get_or-set_same account.high p code.high 0 (omega (arith, h, sized.highs)))
      (get_or-set_same account.low p code.low 0 (omega (arith, h, sized.lows)))

  -- and every other as it was
  pub other_active : (i : ℕ) → i ≢ p → active_at placed i ≡ active_at account i
  other_active i n = ap (λ (a : ℕ). not (eqb a 0)) (get_or-set_other account.active p i on 0 n)

  pub other_code : (i : ℕ) → i ≢ p → code_at placed i ≡ code_at account i
  other_code i n =
      ap₂ halves_by (get_or-set_other account.high p i code.high 0 n) (get_or-set_other account.low p i code.low 0 n)

  other_holds : (d : Halves) (i : ℕ) → i ≢ p → holds_at placed d i ≡ holds_at account d i
  other_holds d i n = ap₂ (λ (a : Bool) (c : Halves). a && same_code c d) (other_active i n) (other_code i n)

  -- The account stays sound, where an active place is given a code that is not active and the total is the count
  placed_sound : Sound account → p < places → number ≤ largest → total ≡ count_active placed.active
      → (active_at placed p ≡ true → (is_code code ≡ true) × (is_active account code ≡ false)) → Sound placed
  placed_sound sound h k counts put = record {
    sized = placed_sized sound.sized;
    single = λ i j hi hj a b e. one i j hi hj a b e (ℕ_discrete i p) (ℕ_discrete j p);
    read = λ i hi a. ok i hi a (ℕ_discrete i p);
    within = k;
    counted = counts;
  }
    where
      here : code_at placed p ≡ code
      here = placed_code sound.sized h

      ok : (i : ℕ) → i < places → active_at placed i ≡ true → Dec (i ≡ p) → is_code (code_at placed i) ≡ true
      ok i hi a (yes e) =
          ap (λ (j : ℕ). is_code (code_at placed j)) e
          ∙ ap is_code here
          ∙ (put (ap (λ (j : ℕ). active_at placed j) (sym e) ∙ a)).0
      ok i hi a (no n) = ap is_code (other_code i n) ∙ sound.read i hi (sym (other_active i n) ∙ a)

      -- No other active place has the code
      apart : (i j : ℕ) → j < places → active_at placed i ≡ true → active_at placed j ≡ true → code_at placed i ≡ code_at placed j
          → i ≡ p → j ≢ p → ⊥
      apart i j hj a b e s n =
          true≢false
          (sym (at_active account code j hj (sym (other_active j n) ∙ b)
          (sym (other_code j n) ∙ sym e ∙ ap (λ (q : ℕ). code_at placed q) s ∙ here))
          ∙ (put (ap (λ (q : ℕ). active_at placed q) (sym s) ∙ a)).1)

      one : (i j : ℕ) → i < places → j < places → active_at placed i ≡ true → active_at placed j ≡ true → code_at placed i ≡ code_at placed j
          → Dec (i ≡ p) → Dec (j ≡ p) → i ≡ j
      one i j hi hj a b e (yes s) (yes t) = s ∙ sym t
      one i j hi hj a b e (yes s) (no t) = absurd (apart i j hj a b e s t)
      one i j hi hj a b e (no s) (yes t) = absurd (apart j i hi b a (sym e) t s)
      one i j hi hj a b e (no s) (no t) =
          sound.single i j hi hj (sym (other_active i s) ∙ a) (sym (other_active j t) ∙ b) (sym (other_code i s) ∙ e ∙ other_code j t)

  -- Where a code was not active at the place, it is active afterwards where it is active there or was elsewhere
  placed_among : (d : Halves) → p < places → holds_at account d p ≡ false → is_active placed d ≡ (holds_at placed d p || is_active account d)
  placed_among d h off = somewhere_but (holds_at account d) (holds_at placed d) p h off (other_holds d)

-- ---- a code takes the lowest free place

-- The total with one place more active, where that is a place
raised_more : (total : ℕ) → total < places → raised total ≡ suc total
raised_more total h = rw (lt-ltb total places h)

module _ (number : ℕ) {account : Account} (code : Halves) (sound : Sound account) (room : is_full account ≡ false) where
  abbrev here : free_place account < places
  here = free_within account room

  -- One more place is active
  pub taken_count : count_active (taken number account code).active ≡ suc (count_active account.active)
  taken_count = count_taken account.active sound.sized.actives (free_place account) here 1 (free_free account room) refl

  -- and the total says so
  taken_total : (taken number account code).total ≡ count_active (taken number account code).active
  taken_total =
      raised_more account.total (omega (arith, sound.counted, count_within account room))
      ∙ ap suc sound.counted
      ∙ sym taken_count

  -- The account stays sound, where the code is one that reading accepts and was not active
  pub taken_sound : number ≤ largest → is_code code ≡ true → is_active account code ≡ false → Sound (taken number account code)
  taken_sound k c n =
      placed_sound number (raised account.total) account (free_place account) code 1 sound here k taken_total (λ a. (c, n))

  -- The active codes are this one and those that were
  pub taken_active : (d : Halves) → is_active (taken number account code) d ≡ (same_code code d || is_active account d)
  taken_active d =
      placed_among number (raised account.total) account (free_place account) code 1 d here
      (fails_left (same_code (code_at account (free_place account)) d) (ap not (free_free account room)))
      ∙ ap₂ (λ (a : Bool) (c : Halves). (a && same_code c d) || is_active account d)
      (placed_active number (raised account.total) account (free_place account) code 1 sound.sized here)
      (placed_code number (raised account.total) account (free_place account) code 1 sound.sized here)

-- ---- the place of an active code cleared

module _ (number : ℕ) {account : Account} (code : Halves) (sound : Sound account) (was : is_active account code ≡ true) where
  place_within : place_of account code < places
  place_within = ltb-true (place_of account code) places was

  -- The place is not active
  place_cleared : active_at (cleared number account code) (place_of account code) ≡ false
  place_cleared = placed_active number (lowered account.total) account (place_of account code) zeros 0 sound.sized place_within

  -- One less place is active
  pub cleared_count : suc (count_active (cleared number account code).active) ≡ count_active account.active
  cleared_count =
      count_cleared account.active sound.sized.actives (place_of account code) place_within
      (not-true (is_free account.active (place_of account code)) (place_active account code place_within).0)

  -- and the total says so
  cleared_total : (cleared number account code).total ≡ count_active (cleared number account code).active
  cleared_total = omega (arith, sound.counted, cleared_count)

  -- The account stays sound
  pub cleared_sound : number ≤ largest → Sound (cleared number account code)
  cleared_sound k =
      placed_sound number (lowered account.total) account (place_of account code) zeros 0 sound place_within k cleared_total
      (λ a. absurd (true≢false (sym a ∙ place_cleared)))

  -- The active codes are those that were, without this one
  pub cleared_active : (d : Halves) → is_active (cleared number account code) d ≡ (not (same_code code d) && is_active account d)
  cleared_active d = at (same_code code d) refl
    where
      afterwards : Account
      afterwards = cleared number account code

      -- No other place had the code
      other_place : code ≡ d → (i : ℕ) → i < places → i ≢ place_of account code → (b : Bool) → holds_at account d i ≡ b → b ≡ false
      other_place s i h n true e =
          let here = both (active_at account i) (same_code (code_at account i) d) e in
          let there = place_active account code place_within in
          let one = same_code_lem (code_at account i) d here.1 ∙ sym s ∙ sym there.1 in
          absurd (n (sound.single i (place_of account code) h place_within here.0 there.0 one))
      other_place s i h n false e = refl

      -- so no place has it
      gone : code ≡ d → (i : ℕ) → i < places → Dec (i ≡ place_of account code) → holds_at afterwards d i ≡ false
      gone s i h (yes q) = fails_left (same_code (code_at afterwards i) d) (ap (λ (j : ℕ). active_at afterwards j) q ∙ place_cleared)
      gone s i h (no n) = other_holds number (lowered account.total) account (place_of account code) zeros 0 d i n ∙ other_place s i h n (holds_at account d i) refl

      at : (b : Bool) → same_code code d ≡ b → is_active afterwards d ≡ (not b && is_active account d)
      at true e = nowhere (holds_at afterwards d) (λ i h. gone (same_code_lem code d e) i h (ℕ_discrete i (place_of account code)))
      at false e =
          placed_among number (lowered account.total) account (place_of account code) zeros 0 d place_within
          (fails_right (active_at account (place_of account code))
          (ap (λ (c : Halves). same_code c d) (place_active account code place_within).1 ∙ e))
          ∙ ap (λ (b : Bool). b || is_active account d) (fails_left (same_code (code_at afterwards (place_of account code)) d) place_cleared)
