-- The laws of the lowest place that passes a test and of what looks for it, a loop or the library; of how many places are active and of
-- what the library counts. Assumes nothing.
use Prim.Native.Nat.{ℕ, zero, suc, ◌+◌, ◌≤◌, ◌<◌}
use Rattle.std.proofs.Common.{eq-or-lt_of_le, add-one, subst, ◌∙◌, inl, inr, true≢false, get_or-set_same, get_or-set_other, ltb-false, nat_lt, take_all}
use Rattle.std.proofs.lemmas.List.Sums.{position_or_len_is, count_by_more_yes, count_by_more_no}
use Rattle.std.specs.List.{position_or_len}
use native.Mathlib.Omega.{arith}
use Rattle.std.specs.Prelude.{◌≡◌, ◌⊎◌, ◌≢◌, Bool, List, eqb, length, get_or, set, Option, Some, None, position, unwrap_or, count_by, take}
use Rattle.std.specs.Option.{MatchOption}
use Rattle.std.proofs.Math.Path.{refl, ap, sym}
use Rattle.std.proofs.Math.Bool.{true, false, cond, not}
use Rattle.facts.specs.Numbers.{either_way, not_above}
use Rattle.facts.specs.Tests.{fails_right}
use Rattle.halves.specs.declared.Halves.{Halves}
use Rattle.places.specs.Places.{places, is_free, active_on, has_low, holds, lowest_from, lowest_place, count_below, count_active}

-- A number is the lowest of n from one on that passes a test
record Lowest (test : ℕ → Bool) (from n i : ℕ) : Type 0 where
  pub least : from ≤ i
  pub most : i ≤ from + n
  pub before : (k : ℕ) → from ≤ k → k < i → test k ≡ false
  pub passes : i < from + n → test i ≡ true

-- The definition's is one
lowest_is : (test : ℕ → Bool) (n from : ℕ) → Lowest test from n (lowest_from n from test)
lowest_is test zero from = record {
  least = omega arith;
  most = omega arith;
  before = λ k h l. let none : ⊥ = omega arith in absurd none;
  passes = λ h. let none : ⊥ = omega arith in absurd none;
}
lowest_is test (suc n) from = at (test from) refl (lowest_is test n (suc from))
  where
    at : (b : Bool) → test from ≡ b → Lowest test (suc from) n (lowest_from n (suc from) test)
        → Lowest test from (suc n) (cond b from (lowest_from n (suc from) test))
    at true e later = record {
      least = omega arith;
      most = omega arith;
      before = λ k h l. let none : ⊥ = omega arith in absurd none;
      passes = λ h. e;
    }
    at false e later = record {
      least = omega (arith, later.least);
      most = omega (arith, later.most);
      before = λ k h l. here k l (eq-or-lt_of_le h);
      passes = λ h. later.passes (omega arith);
    }
      where
        here : (k : ℕ) → k < lowest_from n (suc from) test → (from ≡ k) ⊎ (from < k) → test k ≡ false
        here k l (inl s) = subst (λ (j : ℕ). test j ≡ false) s e
        here k l (inr s) = later.before k s l

module _ (test : ℕ → Bool) where
  -- The lowest place is at most 256
  pub lowest_most : lowest_place test ≤ places
  unfolding lowest_place
  lowest_most = (lowest_is test places 0).most

  -- None below it passes
  pub lowest_before : (k : ℕ) → k < lowest_place test → test k ≡ false
  unfolding lowest_place
  lowest_before k h = (lowest_is test places 0).before k (omega arith) h

  -- and it does, where it is a place
  pub lowest_passes : lowest_place test < places → test (lowest_place test) ≡ true
  unfolding lowest_place
  lowest_passes h = (lowest_is test places 0).passes h

  -- So it is at most any place that passes
  pub lowest_least : (k : ℕ) → test k ≡ true → lowest_place test ≤ k
  lowest_least k e = not_above (λ h. true≢false (sym e ∙ lowest_before k h))

-- A loop that has met no such place below i
pub record NoneBelow (test : ℕ → Bool) (i : ℕ) : Type 0 where
  pub within : i ≤ places
  pub none : (k : ℕ) → k < i → test k ≡ false

module _ {test : ℕ → Bool} where
  pub none_begin : NoneBelow test 0
  none_begin = record { within = omega arith; none = λ k h. let none : ⊥ = omega arith in absurd none }

  pub none_again : {i : ℕ} → NoneBelow test i → i < places → test i ≡ false → NoneBelow test (i + 1)
  none_again {i} p h e = record { within = omega arith; none = λ k l. at k (eq-or-lt_of_le (omega arith)) }
    where
      at : (k : ℕ) → (k ≡ i) ⊎ (k < i) → test k ≡ false
      at k (inl s) = subst (λ (j : ℕ). test j ≡ false) (sym s) e
      at k (inr s) = p.none k s

  -- It stops at the lowest
  pub none_found : {i : ℕ} → NoneBelow test i → i < places → test i ≡ true → i ≡ lowest_place test
  none_found {i} p h e = at (either_way i (lowest_place test))
    where
      at : (i ≤ lowest_place test) ⊎ (lowest_place test < i) → i ≡ lowest_place test
      at (inl k) = omega (arith, k, lowest_least test i e)
      at (inr k) =
          absurd (true≢false (sym (lowest_passes test (omega arith)) ∙ p.none (lowest_place test) k))

  -- or past them all
  pub none_finish : {i : ℕ} → NoneBelow test i → places ≤ i → i ≡ lowest_place test
  none_finish {i} p h = at (either_way i (lowest_place test))
    where
      at : (i ≤ lowest_place test) ⊎ (lowest_place test < i) → i ≡ lowest_place test
      at (inl k) = omega (arith, k, h, lowest_most test)
      at (inr k) =
          absurd (true≢false (sym (lowest_passes test (omega (arith, p.within))) ∙ p.none (lowest_place test) k))

-- What a search of the places answers, with 256 in place of none
pub searched : (test : ℕ → Bool) (r : Option ℕ)
    → MatchOption r ((k : ℕ) → 0 ≤ k → k < places → test k ≡ false)
    (λ i. (0 ≤ i) × (i < places) × (test i ≡ true) × ((k : ℕ) → 0 ≤ k → k < i → test k ≡ false))
    → unwrap_or r places ≡ lowest_place test
searched test None none = none_finish (record { within = omega arith; none = λ k h. none k (omega arith) h }) (omega arith)
searched test (Some i) (s, h, e, before) = none_found (record { within = omega arith; none = λ k l. before k (omega arith) l }) h e

-- What the library's search of a list of 256 numbers answers, with 256 in place of none
pub position_lowest : (test : ℕ → Bool) (xs : List ℕ) → length xs ≡ places
    → unwrap_or (position test xs) places ≡ lowest_place (λ i. test (get_or xs i 0))
position_lowest test xs sized = at (nat_lt (position_or_len test xs) (length xs)) refl
  where
    here : ℕ → Bool
    here i = test (get_or xs i 0)

    same : position_or_len test xs ≡ lowest_place here
    same =
        position_or_len_is test xs (lowest_place here) 0 (omega (arith, lowest_most here, sized)) (lowest_before here)
        (λ h. lowest_passes here (omega (arith, h, sized)))

    at : (b : Bool) → nat_lt (position_or_len test xs) (length xs) ≡ b
        → unwrap_or (cond b (Some (position_or_len test xs)) None) places ≡ lowest_place here
    at true e = same
    at false e = omega (arith, same, sized, ltb-false (position_or_len test xs) (length xs) e, lowest_most here)

-- Two tests of which the second passes nowhere that the first does not: below the first's lowest place none passes the second
none_below : (test other : ℕ → Bool) → ((k : ℕ) → test k ≡ false → other k ≡ false) → NoneBelow other (lowest_place test)
none_below test other so = record { within = lowest_most test; none = λ k h. so k (lowest_before test k h) }

-- A code is active nowhere that has another low half
other_low : (high low active : List ℕ) (code : Halves) (k : ℕ) → has_low low code.low k ≡ false → holds high low active code k ≡ false
other_low high low active code k e =
    fails_right (active_on active k) (fails_right (eqb (get_or high k 0) code.high) e)

-- so it is active at no place below the lowest that has its own
pub code_below : (high low active : List ℕ) (code : Halves) {first : ℕ} → first ≡ lowest_place (has_low low code.low)
    → NoneBelow (holds high low active code) first
code_below high low active code e =
    subst (NoneBelow (holds high low active code)) (sym e)
    (none_below (has_low low code.low) (holds high low active code) (other_low high low active code))

-- ---- how many pass a test

module _ (test : ℕ → Bool) where
  -- None where each fails
  count_none : (n : ℕ) → ((i : ℕ) → i < n → test i ≡ false) → count_below test n ≡ 0
  unfolding count_below
  count_none zero off = refl
  count_none (suc n) off = rw (off n (omega arith)) (count_none n (λ i h. off i (omega arith)))

  -- all where each passes
  count_each : (n : ℕ) → ((i : ℕ) → i < n → test i ≡ true) → count_below test n ≡ n
  unfolding count_below
  count_each zero on = refl
  count_each (suc n) on = rw (on n (omega arith)) (ap suc (count_each n (λ i h. on i (omega arith))))

  -- and never more
  count_most : (n : ℕ) → count_below test n ≤ n
  unfolding count_below
  count_most zero = omega arith
  count_most (suc n) = at (test n) (count_most n)
    where
      at : {m : ℕ} (b : Bool) → m ≤ n → cond b (suc m) m ≤ suc n
      at true h = omega arith
      at false h = omega arith

  -- less where one fails
  count_less : (p n : ℕ) → p < n → test p ≡ false → count_below test n < n
  unfolding count_below
  count_less p zero h off = omega arith
  count_less p (suc n) h off = here (λ k. count_less p n k off) (eq-or-lt_of_le (omega arith))
    where
      at : {m : ℕ} (b : Bool) → m < n → cond b (suc m) m < suc n
      at true k = omega arith
      at false k = omega arith

      here : (p < n → count_below test n < n) → (p ≡ n) ⊎ (p < n) → count_below test (suc n) < suc n
      here less (inl e) = rw (ap test (sym e) ∙ off) (omega (arith, count_most n))
      here less (inr k) = at (test n) (less k)

module _ (one other : ℕ → Bool) where
  -- Tests that agree pass as often
  count_same : (n : ℕ) → ((i : ℕ) → i < n → other i ≡ one i) → count_below other n ≡ count_below one n
  unfolding count_below
  count_same zero same = refl
  count_same (suc n) same = rw (same n (omega arith), count_same n (λ i h. same i (omega arith)))

  -- and one that passes at one number more passes once more
  count_but : (p n : ℕ) → p < n → one p ≡ false → other p ≡ true → ((i : ℕ) → i ≢ p → other i ≡ one i)
      → count_below other n ≡ suc (count_below one n)
  unfolding count_below
  count_but p zero h off on same = let none : ⊥ = omega arith in absurd none
  count_but p (suc n) h off on same = here (λ k. count_but p n k off on same) (eq-or-lt_of_le (omega arith))
    where
      below : count_below other n ≡ suc (count_below one n) → other n ≡ one n → (b : Bool) → one n ≡ b
          → count_below other (suc n) ≡ suc (count_below one (suc n))
      below e s true q = rw (s, q) (ap suc e)
      below e s false q = rw (s, q) e

      here : (p < n → count_below other n ≡ suc (count_below one n)) → (p ≡ n) ⊎ (p < n)
          → count_below other (suc n) ≡ suc (count_below one (suc n))
      here more (inl e) =
          rw (ap other (sym e) ∙ on, ap one (sym e) ∙ off)
          (ap suc (count_same n (λ i k. same i (λ s. omega (arith, s, e, k)))))
      here more (inr k) = below (more k) (same n (λ s. omega (arith, s, k))) (one n) refl

-- ---- how many places are active

module _ (active : List ℕ) where
  -- None where all are free
  pub count_free : ((i : ℕ) → i < places → is_free active i ≡ true) → count_active active ≡ 0
  unfolding count_active
  count_free free = count_none (active_on active) places (λ i h. ap not (free i h))

  -- 256 where none is
  pub count_all : ((i : ℕ) → i < places → is_free active i ≡ false) → count_active active ≡ places
  unfolding count_active
  count_all on = count_each (active_on active) places (λ i h. ap not (on i h))

  -- and less where one is
  pub count_below_lem : (i : ℕ) → i < places → is_free active i ≡ true → count_active active < places
  unfolding count_active
  count_below_lem i h free = count_less (active_on active) i places h (ap not free)

  module _ (sized : length active ≡ places) (i : ℕ) (h : i < places) where
    -- What another activity of a place changes
    set_here : (a : ℕ) → is_free (set active i a) i ≡ eqb a 0
    set_here a = ap (λ (b : ℕ). eqb b 0) (get_or-set_same active i a 0 (omega (arith, h, sized)))

    set_other : (a k : ℕ) → k ≢ i → is_free (set active i a) k ≡ is_free active k
    set_other a k n = ap (λ (b : ℕ). eqb b 0) (get_or-set_other active i k a 0 n)

    -- One more where a free place becomes active
    pub count_taken : (a : ℕ) → is_free active i ≡ true → eqb a 0 ≡ false → count_active (set active i a) ≡ suc (count_active active)
    unfolding count_active
    count_taken a free on =
        count_but (active_on active) (active_on (set active i a)) i places h (ap not free) (ap not (set_here a ∙ on)) (λ k n. ap not (set_other a k n))

    -- and one less where an active place becomes free
    pub count_cleared : is_free active i ≡ false → suc (count_active (set active i 0)) ≡ count_active active
    unfolding count_active
    count_cleared on =
        sym
        (count_but (active_on (set active i 0)) (active_on active) i places h (ap not (set_here 0)) (ap not on)
        (λ k n. ap not (sym (set_other 0 k n))))

-- A count that has gone through the places below i
pub record Counted (active : List ℕ) (i count : ℕ) : Type 0 where
  pub within : i ≤ places
  pub most : count ≤ i
  pub sum : count ≡ count_below (active_on active) i

pub counted_begin : {active : List ℕ} → Counted active 0 0
unfolding count_below
counted_begin = record { within = omega arith; most = omega arith; sum = refl }

module _ {active : List ℕ} {i count : ℕ} (p : Counted active i count) where
  -- A place more, by whether it is free
  counted_next : i < places → {next : ℕ} → next ≡ count_below (active_on active) (suc i) → Counted active (i + 1) next
  counted_next h {next} e = record {
    within = omega arith;
    most = omega (arith, e, count_most (active_on active) (suc i));
    sum = e ∙ ap (count_below (active_on active)) (sym (add-one i));
  }

  pub counted_active : i < places → is_free active i ≡ false → Counted active (i + 1) (count + 1)
  unfolding count_below
  counted_active h on = counted_next h (add-one count ∙ ap suc p.sum ∙ sym (rw on))

  pub counted_free : i < places → is_free active i ≡ true → Counted active (i + 1) count
  unfolding count_below
  counted_free h free = counted_next h (p.sum ∙ sym (rw free))

  -- It ends with all of them
  pub counted_end : places ≤ i → count ≡ count_active active
  unfolding count_active
  counted_end h = p.sum ∙ ap (count_below (active_on active)) (omega (arith, h, p.within))

-- What the library counts in a list of 256 numbers
module _ (test : ℕ → Bool) (xs : List ℕ) where
  count_first : (n : ℕ) → n ≤ length xs → count_by test (take n xs) ≡ count_below (λ i. test (get_or xs i 0)) n
  unfolding count_below
  count_first zero h = refl
  count_first (suc n) h = at (test (get_or xs n 0)) refl (count_first n (omega arith))
    where
      at : (b : Bool) → test (get_or xs n 0) ≡ b → count_by test (take n xs) ≡ count_below (λ i. test (get_or xs i 0)) n
          → count_by test (take (suc n) xs) ≡ cond b (suc (count_below (λ i. test (get_or xs i 0)) n)) (count_below (λ i. test (get_or xs i 0)) n)
      at true e k = ap (λ (m : ℕ). count_by test (take m xs)) (sym (add-one n)) ∙ count_by_more_yes test xs n 0 (omega arith) e ∙ omega (arith, k)
      at false e k = ap (λ (m : ℕ). count_by test (take m xs)) (sym (add-one n)) ∙ count_by_more_no test xs n 0 (omega arith) e ∙ k

  pub count_places : length xs ≡ places → count_by test xs ≡ count_below (λ i. test (get_or xs i 0)) places
  count_places sized = ap (count_by test) (sym (take_all places xs (omega (arith, sized)))) ∙ count_first places (omega (arith, sized))
