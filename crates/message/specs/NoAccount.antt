-- 40 by the last number, by the total or by a place, and the search for such a place. Assumes nothing.
use Rattle.std.specs.Prelude.{ℕ, ◌<◌, ◌≤◌, ◌≡◌, ◌⊎◌, Bool, true, false, ◌||◌, ltb, length}
use Rattle.std.specs.Bool.{MatchBool}
use Rattle.std.specs.List.{range_with_len, AllWithin, HoldsAt}
use Rattle.std.proofs.lemmas.List.FromFn.{length-range_with_len, get_or-range_with_len}
use Rattle.std.proofs.Common.{arith, sym, subst, ◌∙◌, zero-add, inl, inr}
use Rattle.std.proofs.Math.Path.{ap}
use Rattle.std.proofs.Math.Bool.{not, or-false}
use borrow.Author.Tests.{eq-eqb, ne_eqb, lt-ltb, le-ltb}
use Rattle.facts.specs.Tests.{either, either_left, either_right, neither, none_of}
use Rattle.places.specs.Places.{places, count_active}
use Rattle.places.specs.PlacesLaws.{NoneBelow}
use Rattle.entitlements.specs.declared.Account.{Account}
use Rattle.entitlements.specs.Entitlements.{twice_at, no_code_at, somewhere, largest, miscounted, no_account}
use Rattle.entitlements.specs.Active.{at_somewhere, nowhere}

-- Whether a place has a code that is active at a lower one too, or a content that is no code
abbrev pub bad_at : Account → ℕ → Bool
bad_at account i = twice_at account i || no_code_at account i

-- Whether some place has
abbrev pub bad_place : Account → Bool
bad_place account = somewhere (twice_at account) || somewhere (no_code_at account)

module _ (account : Account) where
  -- The loop stops at one that has
  pub bad_found : {i : ℕ} → i < places → bad_at account i ≡ true → bad_place account ≡ true
  bad_found {i} h e = at (either (twice_at account i) (no_code_at account i) e)
    where
      at : (twice_at account i ≡ true) ⊎ (no_code_at account i ≡ true) → bad_place account ≡ true
      at (inl k) = either_left (somewhere (no_code_at account)) (at_somewhere (twice_at account) i h k)
      at (inr k) = either_right (somewhere (twice_at account)) (at_somewhere (no_code_at account) i h k)

  -- or past them all, where none has
  pub bad_none : {i : ℕ} → NoneBelow (bad_at account) i → places ≤ i → bad_place account ≡ false
  bad_none p h =
      none_of (nowhere (twice_at account) (λ k l. (apart k l).0)) (nowhere (no_code_at account) (λ k l. (apart k l).1))
    where
      apart : (k : ℕ) → k < places → (twice_at account k ≡ false) × (no_code_at account k ≡ false)
      apart k l = neither (twice_at account k) (no_code_at account k) (p.none k (omega arith))

  -- So does the library's search among the numbers of the places
  pub bad_any : (r : Bool)
      → MatchBool r
      ((k : ℕ) × (k < length (range_with_len 0 places)) × HoldsAt (λ i. bad_at account i ≡ true) (range_with_len 0 places) k)
      (AllWithin (λ i. bad_at account i ≡ false) (range_with_len 0 places) 0 (length (range_with_len 0 places)))
      → r ≡ bad_place account
  bad_any true (k, h, bad) =
      let here : k < places = omega (arith, h, length-range_with_len 0 places) in
      sym (bad_found here (subst (λ (i : ℕ). bad_at account i ≡ true) (get_or-range_with_len 0 places k 0 here ∙ zero-add k) (bad 0)))
  bad_any false good =
      sym
      (bad_none
      (record {
        within = omega arith;
        none =
            λ k h. subst (λ (i : ℕ). bad_at account i ≡ false) (get_or-range_with_len 0 places k 0 h ∙ zero-add k)
            (good k 0 (omega arith) (omega (arith, h, length-range_with_len 0 places)));
      })
      (omega arith))

  -- 40, by the last number, by the total or by a place
  pub last_large : largest < account.last → no_account account ≡ true
  unfolding no_account
  last_large h =
      either_right (somewhere (twice_at account))
      (either_right (somewhere (no_code_at account)) (either_left (miscounted account) (lt-ltb largest account.last h)))

  pub total_other : (count_active account.active ≡ account.total → ⊥) → no_account account ≡ true
  unfolding no_account
  total_other n =
      let other = ap not (ne_eqb account.total (count_active account.active) (λ e. n (sym e))) in
      either_right (somewhere (twice_at account))
      (either_right (somewhere (no_code_at account)) (either_right (ltb largest account.last) other))

  pub numbers_right : account.last ≤ largest → count_active account.active ≡ account.total → no_account account ≡ bad_place account
  unfolding no_account
  numbers_right h e = rw (le-ltb largest account.last h, eq-eqb account.total (count_active account.active) (sym e), or-false)
