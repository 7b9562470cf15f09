-- The laws of an index: each case of looking up and of noting; and the slots that find each code's place, which hold of the empty account
-- and stay so when a code takes a place, when a place is cleared and when a number is used up. Assumes nothing.
use Rattle.std.specs.Prelude.{ℕ, ◌≤◌, ◌<◌, ◌≡◌, ◌⊎◌, true, cond, ◌&&◌, List, ltb, length}
use Rattle.std.proofs.Common.{arith, ap₂, sym, ◌∙◌, inl, inr, true≢false, length-set, get_or-set_same, get_or-set_other, eq-eqb, lt-ltb, le-ltb, ltb-true, ltb-false}
use Rattle.std.proofs.Math.Decide.{ℕ_discrete}
use Rattle.std.proofs.Math.Path.{refl, ap, subst}
use Rattle.std.proofs.Math.Bool.{Bool, false}
use Rattle.std.proofs.Math.ListN.{get_or, set}
use Rattle.facts.specs.Numbers.{either_way}
use Rattle.halves.specs.declared.Halves.{Halves}
use Rattle.places.specs.Places.{places, holds, lowest_place}
use Rattle.places.specs.PlacesLaws.{lowest_most, lowest_passes, lowest_least}
use Rattle.entitlements.specs.declared.Account.{Account}
use Rattle.entitlements.specs.Entitlements.{empty, code_at, active_at, place_of, is_active, free_place, is_full, used, raised, lowered, taken, zeros, cleared}
use Rattle.entitlements.specs.Active.{holds_at, place_active, free_within}
use Rattle.entitlements.specs.Sound.{Sized, empty_inactive}
use Rattle.entitlements.proofs.Changes.{placed_active, placed_code, other_active, other_code}
use Rattle.index.specs.Index.{slot_count, hash_of, slot_of, shares_at, looked_up, noted}

-- ---- the cases of looking up and of noting, by the hash

module _ (slots high low active : List ℕ) (code : Halves) {hash : ℕ} (e : hash ≡ hash_of code) where
  -- A crowded slot
  pub looked_everywhere : places ≤ get_or slots hash 0 → looked_up slots high low active code ≡ lowest_place (holds high low active code)
  unfolding looked_up
  looked_everywhere h = rw (le-ltb (slot_of slots code) places (subst (λ (n : ℕ). places ≤ get_or slots n 0) e h))

  pub noted_crowded : (place : ℕ) → places ≤ get_or slots hash 0 → noted slots high low active place code ≡ slots
  unfolding noted
  noted_crowded place h = rw (le-ltb (slot_of slots code) places (subst (λ (n : ℕ). places ≤ get_or slots n 0) e h))

  module _ (h : get_or slots hash 0 < places) where
    abbrev guessed : ltb (slot_of slots code) places ≡ true
    guessed = lt-ltb (slot_of slots code) places (subst (λ (n : ℕ). get_or slots n 0 < places) e h)

    -- A place that has the code, and one that has not
    pub looked_there : holds high low active code (get_or slots hash 0) ≡ true → looked_up slots high low active code ≡ get_or slots hash 0
    unfolding looked_up
    looked_there k =
        rw (guessed, subst (λ (n : ℕ). holds high low active code (get_or slots n 0) ≡ true) e k) (ap (λ (n : ℕ). get_or slots n 0) (sym e))

    pub looked_none : holds high low active code (get_or slots hash 0) ≡ false → looked_up slots high low active code ≡ places
    unfolding looked_up
    looked_none k = rw (guessed, subst (λ (n : ℕ). holds high low active code (get_or slots n 0) ≡ false) e k)

    -- A place that shares the slot, and one that does not
    pub noted_shared : (place : ℕ) → shares_at high low active hash (get_or slots hash 0) ≡ true
        → noted slots high low active place code ≡ set slots hash places
    unfolding noted
    noted_shared place k =
        rw (guessed, subst (λ (n : ℕ). shares_at high low active n (get_or slots n 0) ≡ true) e k) (ap (λ (n : ℕ). set slots n places) (sym e))

    pub noted_place : (place : ℕ) → shares_at high low active hash (get_or slots hash 0) ≡ false
        → noted slots high low active place code ≡ set slots hash place
    unfolding noted
    noted_place place k =
        rw (guessed, subst (λ (n : ℕ). shares_at high low active n (get_or slots n 0) ≡ false) e k) (ap (λ (n : ℕ). set slots n place) (sym e))

-- ---- the slots that find each code's place

-- A slot is crowded or has this place
abbrev pub Tells : ℕ → ℕ → Type 0
Tells slot i = (places ≤ slot) ⊎ (slot ≡ i)

-- So does that of each active place
pub record Indexed (slots : List ℕ) (account : Account) : Type 0 where
  pub sized : length slots ≡ slot_count
  pub tells : (i : ℕ) → i < places → active_at account i ≡ true → Tells (slot_of slots (code_at account i)) i

-- Looking up finds the place of a code, 256 where it is not active
module _ {slots : List ℕ} {account : Account} (so : Indexed slots account) (code : Halves) where
  -- The place of a code is in its slot, where that is not crowded
  place_told_lem : place_of account code < places → slot_of slots code < places → slot_of slots code ≡ place_of account code
  place_told_lem h k =
      let found = place_active account code h in
      at (subst (λ (c : Halves). Tells (slot_of slots c) (place_of account code)) found.1 (so.tells (place_of account code) h found.0))
    where
      at : Tells (slot_of slots code) (place_of account code) → slot_of slots code ≡ place_of account code
      at (inl l) = let none : ⊥ = omega (arith, l, k) in absurd none
      at (inr e) = e

  pub looked_place : looked_up slots account.high account.low account.active code ≡ place_of account code
  unfolding looked_up
  looked_place = at (ltb (slot_of slots code) places) (holds_at account code (slot_of slots code)) refl refl
    where
      none : slot_of slots code < places → holds_at account code (slot_of slots code) ≡ false → (places ≤ place_of account code) ⊎ (place_of account code < places)
          → places ≡ place_of account code
      none k off (inl h) = omega (arith, h, lowest_most (holds_at account code))
      none k off (inr h) =
          absurd
          (true≢false
          (sym (lowest_passes (holds_at account code) h) ∙ ap (holds_at account code) (sym (place_told_lem h k)) ∙ off))

      at : (l b : Bool) → ltb (slot_of slots code) places ≡ l → holds_at account code (slot_of slots code) ≡ b
          → cond l (cond b (slot_of slots code) places) (place_of account code) ≡ place_of account code
      at false b e f = refl
      at true true e f =
          let k : slot_of slots code < places = ltb-true (slot_of slots code) places e in
          place_told_lem (omega (arith, k, lowest_least (holds_at account code) (slot_of slots code) f)) k
      at true false e f = none (ltb-true (slot_of slots code) places e) f (either_way places (place_of account code))

-- ---- where it holds

-- of the empty account, whatever the slots have
pub empty_indexed : {slots : List ℕ} → length slots ≡ slot_count → Indexed slots empty
empty_indexed h = record { sized = h; tells = λ i k a. absurd (true≢false (sym a ∙ empty_inactive i k)) }

-- when a number is used up
pub used_indexed : {slots : List ℕ} {account : Account} (number : ℕ) → Indexed slots account → Indexed slots (used number account)
used_indexed number so = record { sized = so.sized; tells = so.tells }

module _ {slots : List ℕ} {account : Account} (number : ℕ) (so : Indexed slots account) (sized : Sized account) (code : Halves) where
  -- when the place of an active code is cleared
  pub cleared_indexed : is_active account code ≡ true → Indexed slots (cleared number account code)
  cleared_indexed on = record { sized = so.sized; tells = λ i h a. at i h a (ℕ_discrete i p) }
    where
      p : ℕ
      p = place_of account code

      afterwards : Account
      afterwards = cleared number account code

      off : active_at afterwards p ≡ false
      off = placed_active number (lowered account.total) account p zeros 0 sized (ltb-true p places on)

      at : (i : ℕ) → i < places → active_at afterwards i ≡ true → Dec (i ≡ p) → Tells (slot_of slots (code_at afterwards i)) i
      at i h a (yes e) = absurd (true≢false (sym a ∙ ap (active_at afterwards) e ∙ off))
      at i h a (no n) =
          subst (λ (c : Halves). Tells (slot_of slots c) i) (sym (other_code number (lowered account.total) account p zeros 0 i n))
          (so.tells i h (sym (other_active number (lowered account.total) account p zeros 0 i n) ∙ a))

-- ---- a place noted

module _ (slots : List ℕ) (account : Account) (place : ℕ) (code : Halves) where
  -- What noting can leave
  data Noting : List ℕ → Type 0 where
    crowded : places ≤ slot_of slots code → Noting slots
    shared : slot_of slots code < places → Noting (set slots (hash_of code) places)
    single : slot_of slots code < places → shares_at account.high account.low account.active (hash_of code) (slot_of slots code) ≡ false
        → Noting (set slots (hash_of code) place)

  noting : Noting (noted slots account.high account.low account.active place code)
  unfolding noted
  noting = at (ltb (slot_of slots code) places) shares refl refl
    where
      shares : Bool
      shares = shares_at account.high account.low account.active (hash_of code) (slot_of slots code)

      at : (l b : Bool) → ltb (slot_of slots code) places ≡ l → shares ≡ b
          → Noting (cond l (set slots (hash_of code) (cond b places place)) slots)
      at false b e f = crowded (ltb-false (slot_of slots code) places e)
      at true true e f = shared (ltb-true (slot_of slots code) places e)
      at true false e f = single (ltb-true (slot_of slots code) places e) f

-- A slot that is written anew
slot_set : (slots : List ℕ) → length slots ≡ slot_count → (code : Halves) (a : ℕ) → slot_of (set slots (hash_of code) a) code ≡ a
slot_set slots sized code a = get_or-set_same slots (hash_of code) a 0 (omega (arith, sized))

module _ {slots : List ℕ} {account : Account} {place : ℕ} {code : Halves} (sized : length slots ≡ slot_count) where
  -- As many slots
  noting_sized : {next : List ℕ} → Noting slots account place code next → length next ≡ slot_count
  noting_sized (crowded h) = sized
  noting_sized (shared h) = length-set slots (hash_of code) places ∙ sized
  noting_sized (single h k) = length-set slots (hash_of code) place ∙ sized

  -- The code's slot tells the place
  noting_here : {next : List ℕ} → Noting slots account place code next → Tells (slot_of next code) place
  noting_here (crowded h) = inl h
  noting_here (shared h) = inl (omega (arith, slot_set slots sized code places))
  noting_here (single h k) = inr (slot_set slots sized code place)

  -- and that of any other active place still tells it
  noting_other : {next : List ℕ} → Noting slots account place code next → (i : ℕ) → active_at account i ≡ true
      → Tells (slot_of slots (code_at account i)) i → Tells (slot_of next (code_at account i)) i
  noting_other (crowded h) i a told = told
  noting_other (shared h) i a told = at (ℕ_discrete (hash_of (code_at account i)) (hash_of code))
    where
      at : Dec (hash_of (code_at account i) ≡ hash_of code) → Tells (slot_of (set slots (hash_of code) places) (code_at account i)) i
      at (yes e) = inl (omega (arith, ap (λ (n : ℕ). get_or (set slots (hash_of code) places) n 0) e ∙ slot_set slots sized code places))
      at (no n) =
          subst (λ (s : ℕ). Tells s i) (sym (get_or-set_other slots (hash_of code) (hash_of (code_at account i)) places 0 n)) told
  noting_other (single h k) i a told = at (ℕ_discrete (hash_of (code_at account i)) (hash_of code)) told
    where
      same : hash_of (code_at account i) ≡ hash_of code → slot_of slots (code_at account i) ≡ slot_of slots code
      same e = ap (λ (n : ℕ). get_or slots n 0) e

      at : Dec (hash_of (code_at account i) ≡ hash_of code) → Tells (slot_of slots (code_at account i)) i
          → Tells (slot_of (set slots (hash_of code) place) (code_at account i)) i
      at (yes e) (inl l) = let none : ⊥ = omega (arith, l, h, same e) in absurd none
      at (yes e) (inr s) =
          let there : slot_of slots code ≡ i = sym (same e) ∙ s in
          let shares : shares_at account.high account.low account.active (hash_of code) i ≡ true =
          ap₂ ◌&&◌ a (eq-eqb (hash_of (code_at account i)) (hash_of code) e) in
          absurd
          (true≢false
          (sym shares ∙ ap (shares_at account.high account.low account.active (hash_of code)) (sym there) ∙ k))
      at (no n) t =
          subst (λ (s : ℕ). Tells s i) (sym (get_or-set_other slots (hash_of code) (hash_of (code_at account i)) place 0 n)) t

-- The slots find each code's place when a code takes the lowest free place and that is noted
pub taken_indexed : {slots : List ℕ} {account : Account} (number : ℕ) → Indexed slots account → Sized account → (code : Halves)
    → is_full account ≡ false
    → Indexed (noted slots account.high account.low account.active (free_place account) code) (taken number account code)
taken_indexed {slots} {account} number so sized code room =
    record { sized = noting_sized so.sized became; tells = λ i h a. at i h a (ℕ_discrete i p) }
  where
    p : ℕ
    p = free_place account

    total : ℕ
    total = raised account.total

    afterwards : Account
    afterwards = taken number account code

    next : List ℕ
    next = noted slots account.high account.low account.active p code

    became : Noting slots account p code next
    became = noting slots account p code

    here : code_at afterwards p ≡ code
    here = placed_code number total account p code 1 sized (free_within account room)

    at : (i : ℕ) → i < places → active_at afterwards i ≡ true → Dec (i ≡ p) → Tells (slot_of next (code_at afterwards i)) i
    at i h a (yes e) =
        subst (λ (j : ℕ). Tells (slot_of next (code_at afterwards j)) j) (sym e)
        (subst (λ (c : Halves). Tells (slot_of next c) p) (sym here) (noting_here so.sized became))
    at i h a (no n) =
        let on = sym (other_active number total account p code 1 i n) ∙ a in
        subst (λ (c : Halves). Tells (slot_of next c) i) (sym (other_code number total account p code 1 i n))
        (noting_other so.sized became i on (so.tells i h on))
