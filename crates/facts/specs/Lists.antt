-- Lists: what holds of each element, an element of a list, lists in increasing order, numbers that count up, and a test that each entry of
-- a table passes. Assumes nothing.
use Rattle.std.specs.Prelude.{ℕ, zero, suc, ◌+◌, ◌≤◌, ◌<◌, ◌≡◌, ◌⊎◌, Bool, true, ◌&&◌, List, [], ◌∷◌, ◌++◌, map, T, length, get_or}
use Rattle.std.proofs.Common.{eq-or-lt_of_le, arith, sym, subst, inl, inr}
use Rattle.facts.specs.Tests.{both_hold}

-- Each element of a list is such
abbrev pub Each : {A : Type 0} → (A → Type 0) → List A → Type 0
Each P [] = Unit {0}
Each P (x ∷ xs) = P x × Each P xs

-- What follows for each element follows for the list
pub each_so : {A : Type 0} {P Q : A → Type 0} → ((x : A) → P x → Q x) → (xs : List A) → Each P xs → Each Q xs
each_so so [] t = tt
each_so so (x ∷ xs) t = (so x t.0, each_so so xs t.1)

-- What holds of all holds of the elements
pub each_all : {A : Type 0} {P : A → Type 0} → ((x : A) → P x) → (xs : List A) → Each P xs
each_all all [] = tt
each_all all (x ∷ xs) = (all x, each_all all xs)

-- What holds of each of two lists holds of one after the other
pub each_append : {A : Type 0} (P : A → Type 0) (xs ys : List A) → Each P xs → Each P ys → Each P (xs ++ ys)
each_append P [] ys s t = t
each_append P (x ∷ xs) ys s t = (s.0, each_append P xs ys s.1 t)

-- What holds of each image holds of what it is the image of
pub each_of : {A B : Type 0} (P : B → Type 0) (f : A → B) (xs : List A) → Each P (map f xs) → Each (λ (x : A). P (f x)) xs
each_of P f [] t = tt
each_of P f (x ∷ xs) t = (t.0, each_of P f xs t.1)

-- What each element of a list is, the one at a place is
pub each_at : {A : Type 0} (P : A → Type 0) (xs : List A) → Each P xs → (i : ℕ) → i < length xs → (d : A) → P (get_or xs i d)
each_at P [] t i h d = let none : ⊥ = omega arith in absurd none
each_at P (x ∷ xs) t zero h d = t.0
each_at P (x ∷ xs) t (suc i) h d = each_at P xs t.1 i (omega arith) d

-- A number of a list
abbrev pub In : ℕ → List ℕ → Type 0
In a [] = ⊥
In a (x ∷ xs) = (a ≡ x) ⊎ In a xs

-- What holds of each entry of a list holds of one
pub each_in : (P : ℕ → Type 0) (xs : List ℕ) (a : ℕ) → Each P xs → In a xs → P a
each_in P [] a t m = absurd m
each_in P (x ∷ xs) a t (inl e) = subst P (sym e) t.0
each_in P (x ∷ xs) a t (inr m) = each_in P xs a t.1 m

-- A list in increasing order: each entry is below all later ones
abbrev pub Rising : List ℕ → Type 0
Rising [] = Unit {0}
Rising (x ∷ xs) = Each (λ (y : ℕ). x < y) xs × Rising xs

-- So many numbers from one on
abbrev pub count_up : ℕ → ℕ → List ℕ
count_up zero from = []
count_up (suc n) from = from ∷ count_up n (suc from)

-- They are the numbers from it on
pub count_each : (n from : ℕ) → Each (λ (a : ℕ). (from ≤ a) × (a < from + n)) (count_up n from)
count_each zero from = tt
count_each (suc n) from = (
  (omega arith, omega arith),
  each_so (λ a h. (omega arith, omega arith)) (count_up n (suc from)) (count_each n (suc from)),
)

-- in increasing order
pub count_rising : (n from : ℕ) → Rising (count_up n from)
count_rising zero from = tt
count_rising (suc n) from = (each_so (λ a h. h.0) (count_up n (suc from)) (count_each n (suc from)), count_rising n (suc from))

-- and all of them
pub count_all : (n from a : ℕ) → from ≤ a → a < from + n → In a (count_up n from)
count_all zero from a h k = let none : ⊥ = omega arith in absurd none
count_all (suc n) from a h k = at (eq-or-lt_of_le h) (λ l. count_all n (suc from) a l (omega arith))
  where
    at : (from ≡ a) ⊎ (from < a) → (from < a → In a (count_up n (suc from))) → In a (from ∷ count_up n (suc from))
    at (inl e) later = inl (sym e)
    at (inr l) later = inr (later l)

-- A test that each entry of a table passes
abbrev pub every : {A : Type 0} → (A → Bool) → List A → Bool
every test [] = true
every test (x ∷ xs) = test x && every test xs

-- What it says of one of them
pub every_at : {A : Type 0} (test : A → Bool) (xs : List A) (d : A) → T (every test xs) → (i : ℕ) → i < length xs → T (test (get_or xs i d))
every_at test [] d t i h = let none : ⊥ = omega arith in absurd none
every_at test (x ∷ xs) d t zero h = (both_hold (test x) (every test xs) t).0
every_at test (x ∷ xs) d t (suc i) h = every_at test xs d (both_hold (test x) (every test xs) t).1 i (omega arith)

-- and of a number in it
pub every_in : (test : ℕ → Bool) (xs : List ℕ) → T (every test xs) → (a : ℕ) → In a xs → T (test a)
every_in test [] t a m = absurd m
every_in test (x ∷ xs) t a (inl e) = subst (λ (n : ℕ). T (test n)) (sym e) (both_hold (test x) (every test xs) t).0
every_in test (x ∷ xs) t a (inr m) = every_in test xs (both_hold (test x) (every test xs) t).1 a m
