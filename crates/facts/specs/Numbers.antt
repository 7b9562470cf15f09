-- Numbers compared, and products of differences: what `omega` is handed where it would have to choose or to multiply. Assumes nothing.
use Rattle.std.specs.Prelude.{ℕ, suc, ◌+◌, ◌*◌, ◌-◌, ◌≤◌, ◌<◌, min, max, ◌≡◌, refl, ◌⊎◌, Bool, true, false, ◌&&◌, ◌||◌, leb, ltb}
use Rattle.std.proofs.Common.{arith, subst, inl, inr, leb-true, leb-false, le-leb, ltb-true, ltb-false, lt-ltb, le-ltb}
use Rattle.std.proofs.lemmas.Bool.{lt-leb}

-- One of two numbers is at most the other
pub either_way : (a b : ℕ) → (a ≤ b) ⊎ (b < a)
either_way a b = at (leb a b) refl
  where
    at : (t : Bool) → leb a b ≡ t → (a ≤ b) ⊎ (b < a)
    at true e = inl (leb-true a b e)
    at false e = inr (leb-false a b e)

-- What is not above is at most
pub not_above : {a b : ℕ} → (b < a → ⊥) → a ≤ b
not_above {a} {b} h = at (either_way a b)
  where
    at : (a ≤ b) ⊎ (b < a) → a ≤ b
    at (inl k) = k
    at (inr k) = absurd (h k)

-- Two numbers compared three ways
pub data Compared (a b : ℕ) : Type 0 where
  less : a < b → Compared a b
  same : a ≡ b → Compared a b
  more : b < a → Compared a b

-- One of the three always holds
pub compared : (a b : ℕ) → Compared a b
compared a b = at (either_way a b) (either_way b a)
  where
    at : (a ≤ b) ⊎ (b < a) → (b ≤ a) ⊎ (a < b) → Compared a b
    at (inl h) (inl k) = same (omega arith)
    at (inl h) (inr k) = less k
    at (inr h) k = more h

-- The greater of two is above an end where one of them is
pub max_above : (end a b : ℕ) → ltb end (max a b) ≡ (ltb end a || ltb end b)
max_above end a b = at (ltb end a) (ltb end b) refl refl
  where
    at : (s t : Bool) → ltb end a ≡ s → ltb end b ≡ t → ltb end (max a b) ≡ (s || t)
    at true t h k = lt-ltb end (max a b) (omega (arith, ltb-true end a h))
    at false true h k = lt-ltb end (max a b) (omega (arith, ltb-true end b k))
    at false false h k = le-ltb end (max a b) (omega (arith, ltb-false end a h, ltb-false end b k))

-- It is at most an end where both are
pub max_most : (a b end : ℕ) → leb (max a b) end ≡ (leb a end && leb b end)
max_most a b end = at (leb a end) (leb b end) refl refl
  where
    at : (s t : Bool) → leb a end ≡ s → leb b end ≡ t → leb (max a b) end ≡ (s && t)
    at true true h k = le-leb (max a b) end (omega (arith, leb-true a end h, leb-true b end k))
    at true false h k = lt-leb (max a b) end (omega (arith, leb-false b end k))
    at false t h k = lt-leb (max a b) end (omega (arith, leb-false a end h))

-- and the lesser is at least an end where both are
pub min_least : (a b end : ℕ) → leb end (min a b) ≡ (leb end a && leb end b)
min_least a b end = at (leb end a) (leb end b) refl refl
  where
    at : (s t : Bool) → leb end a ≡ s → leb end b ≡ t → leb end (min a b) ≡ (s && t)
    at true true h k = le-leb end (min a b) (omega (arith, leb-true end a h, leb-true end b k))
    at true false h k = lt-leb end (min a b) (omega (arith, leb-false end b k))
    at false t h k = lt-leb end (min a b) (omega (arith, leb-false end a h))

-- A difference and what it was taken from
rest_of_lem : {a b : ℕ} → a ≤ b → a + (b - a) ≡ b
rest_of_lem h = omega arith

-- (b - a) times (d - c) is not negative
pub product_le : {a b c d : ℕ} → a ≤ b → c ≤ d → a * d + b * c ≤ a * c + b * d
product_le {a} {b} {c} {d} h k =
    subst (λ (x : ℕ). a * d + x * c ≤ a * c + x * d) (rest_of_lem h)
    (subst (λ (y : ℕ). a * y + (a + (b - a)) * c ≤ a * c + (a + (b - a)) * y) (rest_of_lem k) (plain a (b - a) c (d - c)))
  where
    plain : (a m c n : ℕ) → a * (c + n) + (a + m) * c ≤ a * c + (a + m) * (c + n)
    plain a m c n = omega arith

-- (b - a) times (d - c) is positive
pub product_lt : {a b c d : ℕ} → a < b → c < d → a * d + b * c < a * c + b * d
product_lt {a} {b} {c} {d} h k =
    let more : suc a * d + b * suc c ≤ suc a * suc c + b * d = product_le h k in
    omega arith
