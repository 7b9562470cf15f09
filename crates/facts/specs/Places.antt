-- Places (document 01, "Replies": "first such corner", "first such byte"): the first element of a list that passes a test, and its
-- laws. Assumes nothing.
use Rattle.std.specs.Prelude.{ℕ, suc, ◌+◌, ◌<◌, ◌≤◌, ◌≡◌, refl, Bool, true, false, cond, List, [], ◌∷◌, length, get_or, drop, position, unwrap_or, Some, None}
use Rattle.std.specs.List.{position_or_len}
use Rattle.std.proofs.Common.{add-one, arith, ap, sym, nat_lt, ltb-false, drop_of_length-le, drop-cons}
use Rattle.std.proofs.lemmas.List.Recursion.{is_position_or_len}

-- The place, counted from 0, of the first element that passes a test; the list's length where none does
abbrev pub first_place : {A : Type 0} → (A → Bool) → List A → ℕ
first_place test [] = 0
first_place test (x ∷ xs) = cond (test x) 0 (suc (first_place test xs))

-- It is at most the length
pub first_most : {A : Type 0} (test : A → Bool) (xs : List A) → first_place test xs ≤ length xs
first_most test [] = omega arith
first_most test (x ∷ xs) = at (test x) (first_most test xs)
  where
    at : (b : Bool) → first_place test xs ≤ length xs → cond b 0 (suc (first_place test xs)) ≤ suc (length xs)
    at true h = omega arith
    at false h = omega arith

-- It is what the library's search for a position answers, with the length in place of none
pub position_place : {A : Type 0} (test : A → Bool) (xs : List A) → unwrap_or (position test xs) (length xs) ≡ first_place test xs
position_place test xs =
    at (nat_lt (position_or_len test xs) (length xs)) refl
  where
    same : first_place test xs ≡ position_or_len test xs
    same = is_position_or_len (first_place test) test refl (λ x ys. ap (cond (test x) 0) (omega arith)) xs

    at : (b : Bool) → nat_lt (position_or_len test xs) (length xs) ≡ b → unwrap_or (cond b (Some (position_or_len test xs)) None) (length xs) ≡ first_place test xs
    at true e = sym same
    at false e = omega (arith, same, ltb-false (position_or_len test xs) (length xs) e, first_most test xs)

-- A loop that goes through a list and has met no such element before place i
pub record NoneBefore {A : Type 0} (test : A → Bool) (xs : List A) (i : ℕ) : Type 0 where
  pub within : i ≤ length xs
  pub none : first_place test xs ≡ i + first_place test (drop i xs)

module _ {A : Type 0} {test : A → Bool} {xs : List A} where
  pub begin : NoneBefore test xs 0
  begin = record { within = omega arith; none = omega arith }

  pub again : {i : ℕ} → NoneBefore test xs i → i < length xs → (d : A) → test (get_or xs i d) ≡ false → NoneBefore test xs (i + 1)
  again {i} p h d e =
      let next : first_place test (drop i xs) ≡ suc (first_place test (drop (i + 1) xs)) = rw (drop-cons xs i d h, e, add-one) in
      record { within = omega arith; none = omega arith }

  pub found : {i : ℕ} → NoneBefore test xs i → i < length xs → (d : A) → test (get_or xs i d) ≡ true → i ≡ first_place test xs
  found {i} p h d e =
      let here : first_place test (drop i xs) ≡ 0 = rw (drop-cons xs i d h, e) in
      omega arith

  pub finish : {i : ℕ} → NoneBefore test xs i → length xs ≤ i → i ≡ first_place test xs
  finish {i} p h =
      let over : first_place test (drop i xs) ≡ 0 = rw (drop_of_length-le xs h) in
      omega arith
