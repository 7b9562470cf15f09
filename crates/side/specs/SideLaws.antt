-- The laws of sides: products of two differences, with what stands above 0 and what below; and the line turned round. Assumes nothing.
use Rattle.std.specs.Prelude.{ℕ, ◌+◌, ◌*◌, ◌≤◌, ◌<◌, ◌≡◌, refl, Bool, true, false, cond, not, leb, ltb}
use Rattle.std.proofs.Common.{mul-le-mul, arith, ap, sym, ◌∙◌, leb-true, leb-false, ltb-true, ltb-false}
use Rattle.std.specs.Bool.{beq}
use Rattle.ground.specs.declared.Point.{Point}
use Rattle.angles.specs.Angles.{distance}
use Rattle.side.specs.Side.{left_sum, right_sum, left, left_or_on}

-- Two tests that hold together are the same
pub ltb_same : (a b c d : ℕ) → (a < b → c < d) → (c < d → a < b) → ltb a b ≡ ltb c d
ltb_same a b c d f g = at (ltb a b) refl (ltb c d) refl
  where
    at : (t : Bool) → ltb a b ≡ t → (u : Bool) → ltb c d ≡ u → t ≡ u
    at true e true k = refl
    at true e false k =
        let none : ⊥ = omega (arith, f (ltb-true a b e), ltb-false c d k) in
        absurd none
    at false e true k =
        let none : ⊥ = omega (arith, g (ltb-true c d k), ltb-false a b e) in
        absurd none
    at false e false k = refl

-- The product of two differences, by which of the numbers is the smaller
product_at : (a b c d m x y : ℕ) → m ≡ x * y → (t u : Bool) → cond t (b ≡ a + x) (a ≡ b + x) → cond u (d ≡ c + y) (c ≡ d + y)
    → a * d + b * c + cond (not (beq t u)) 0 m ≡ a * c + b * d + cond (not (beq t u)) m 0
product_at a b c d m x y e true true p q = rw (p, q, e) (omega arith)
product_at a b c d m x y e true false p q = rw (p, q, e) (omega arith)
product_at a b c d m x y e false true p q = rw (p, q, e) (omega arith)
product_at a b c d m x y e false false p q = rw (p, q, e) (omega arith)

-- A distance leads from the smaller to the greater
apart_at : (a b : ℕ) → cond (ltb a b) (b ≡ a + distance a b) (a ≡ b + distance a b)
apart_at a b = at (ltb a b) refl
  where
    at : (t : Bool) → ltb a b ≡ t → cond t (b ≡ a + distance a b) (a ≡ b + distance a b)
    at true e = let h : a < b = ltb-true a b e in omega arith
    at false e = let h : b ≤ a = ltb-false a b e in omega arith

pub product_signed : (a b c d : ℕ)
    → a * d + b * c + cond (not (beq (ltb a b) (ltb c d))) 0 (distance a b * distance c d)
    ≡ a * c + b * d + cond (not (beq (ltb a b) (ltb c d))) (distance a b * distance c d) 0
product_signed a b c d =
    product_at a b c d (distance a b * distance c d) (distance a b) (distance c d) refl (ltb a b) (ltb c d) (apart_at a b) (apart_at c d)

-- Two distances of 32 bits have a product of 64
pub distances_fit : (a b c d : ℕ) → a ≤ 4294967295 → b ≤ 4294967295 → c ≤ 4294967295 → d ≤ 4294967295
    → distance a b * distance c d ≤ 4294967295 * 4294967295
distances_fit a b c d ha hb hc hd =
    mul-le-mul {n₁ = distance a b} {m₁ = distance c d} {n₂ = 4294967295} {m₂ = 4294967295} (omega arith) (omega arith)

-- The two sums of a side differ as the two products do
pub side_signed : (a b p : Point) (above1 below1 above2 below2 : ℕ)
    → a.lon.0 * p.lat.0 + b.lon.0 * a.lat.0 + above1 ≡ a.lon.0 * a.lat.0 + b.lon.0 * p.lat.0 + below1
    → a.lat.0 * p.lon.0 + b.lat.0 * a.lon.0 + above2 ≡ a.lat.0 * a.lon.0 + b.lat.0 * p.lon.0 + below2
    → ltb (above2 + below1) (above1 + below2) ≡ left a b p
unfolding left
side_signed a b p above1 below1 above2 below2 e k =
    ltb_same (above2 + below1) (above1 + below2) (right_sum a b p) (left_sum a b p) (λ h. omega arith) (λ h. omega arith)

-- Left of a line or on it is not left of the line turned round
pub not_right : (a b p : Point) → left_or_on a b p ≡ not (left b a p)
unfolding left left_or_on
not_right a b p =
    at (leb (right_sum a b p) (left_sum a b p)) refl (ltb (right_sum b a p) (left_sum b a p)) refl
  where
    at : (t : Bool) → leb (right_sum a b p) (left_sum a b p) ≡ t → (u : Bool) → ltb (right_sum b a p) (left_sum b a p) ≡ u → t ≡ not u
    at true e false k = refl
    at false e true k = refl
    at true e true k =
        let none : ⊥ = omega (arith, leb-true (right_sum a b p) (left_sum a b p) e, ltb-true (right_sum b a p) (left_sum b a p) k) in
        absurd none
    at false e false k =
        let none : ⊥ = omega (arith, leb-false (right_sum a b p) (left_sum a b p) e, ltb-false (right_sum b a p) (left_sum b a p) k) in
        absurd none

-- What a test of the line turned round says
pub told_left : (a b p : Point) {s t : Bool} → s ≡ left b a p → s ≡ t → left_or_on a b p ≡ not t
told_left a b p e k = not_right a b p ∙ ap not (sym e ∙ k)
