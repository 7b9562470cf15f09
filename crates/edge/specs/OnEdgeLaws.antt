-- A point on an edge: the sides of the edge are those of its two parts, and its odd count is that of the two together. Assumes nothing.
use Rattle.std.specs.Prelude.{ℕ, ◌+◌, ◌*◌, ◌≤◌, ◌<◌, ◌≡◌, refl, ◌⊎◌, Bool, true, false, not, ◌&&◌, ◌||◌, leb, ltb}
use Rattle.std.proofs.Common.{arith, ap, ap₂, ◌∙◌, inl, inr, leb-true, leb-false, ltb-true, lt-ltb}
use Rattle.std.proofs.Math.Path.{sym}
use Rattle.facts.specs.Tests.{differ, differ_false, same_truth}
use Rattle.facts.specs.Numbers.{product_le, product_lt, either_way}
use Rattle.ground.specs.declared.Point.{Point}
use Rattle.side.specs.Side.{left_sum, right_sum, left}
use Rattle.edge.specs.Edge.{edge, crosses_east, Between, OnEdge}

-- It is on the edge from b to a
pub on_other_way : {a p b : Point} → OnEdge a p b → OnEdge b p a
on_other_way {a} {p} {b} on =
    let line : left_sum b a p ≡ right_sum b a p = omega (arith, on.line) in
    record { line = line; lat = omega (arith, on.lat); lon = omega (arith, on.lon) }

-- A corner is on each edge that starts there
pub on_start : (a b : Point) → OnEdge a a b
on_start a b = record { line = omega arith; lat = omega arith; lon = omega arith }

-- Left of one way is right of the other
other_way : (a b q : Point) → left_sum b a q ≡ right_sum a b q
other_way a b q = omega arith

left_back : (a b q : Point) → left b a q ≡ ltb (left_sum a b q) (right_sum a b q)
unfolding left
left_back a b q = ap₂ ltb (sym (other_way b a q)) (other_way a b q)

-- The differences l - r and m - s have one sign: times positive differences, high - low and top - base, they are equal
pub record SameSign (l r m s : ℕ) : Type 0 where
  low : ℕ
  high : ℕ
  base : ℕ
  top : ℕ
  first : low < high
  second : base < top
  equal : high * l + low * r + (top * s + base * m) ≡ low * l + high * r + (top * m + base * s)

-- as two pairs of numbers tell
by_pairs : {l r m s : ℕ} (low high base top : ℕ) → low < high → base < top
    → high * l + low * r + (top * s + base * m) ≡ low * l + high * r + (top * m + base * s) → SameSign l r m s
by_pairs low high base top h k e = record { low = low; high = high; base = base; top = top; first = h; second = k; equal = e }

-- and the other way, and each for the other
pub sign_other_way : {l r m s : ℕ} → SameSign l r m s → SameSign r l s m
sign_other_way g = by_pairs g.low g.high g.base g.top g.first g.second (omega (arith, g.equal))

pub sign_back : {l r m s : ℕ} → SameSign l r m s → SameSign m s l r
sign_back g = by_pairs g.base g.top g.low g.high g.second g.first (omega (arith, g.equal))

below : {a b : ℕ} → a < b → a ≤ b
below h = omega arith

-- If one is positive so is the other
pub sign_lt : {l r m s : ℕ} → SameSign l r m s → r < l → s < m
sign_lt {l} {r} {m} {s} g h = at (either_way m s)
  where
    at : (m ≤ s) ⊎ (s < m) → s < m
    at (inl k) =
        let p = product_lt g.first h in
        let q = product_le (below g.second) k in
        omega (arith, g.equal)
    at (inr k) = k

-- If one is not negative neither is the other
pub sign_le : {l r m s : ℕ} → SameSign l r m s → r ≤ l → s ≤ m
sign_le {l} {r} {m} {s} g h = at (either_way s m)
  where
    at : (s ≤ m) ⊎ (m < s) → s ≤ m
    at (inl k) = k
    at (inr k) = let more : l < r = sign_lt (sign_other_way (sign_back g)) k in omega arith

-- If one is 0 so is the other
pub sign_none : {l r m s : ℕ} → SameSign l r m s → l ≡ r → m ≡ s
sign_none g e = omega (arith, sign_le g (omega (arith, e)), sign_le (sign_other_way g) (omega (arith, e)))

-- so a test says the same of both
same_ltb : {l r m s : ℕ} → SameSign l r m s → ltb r l ≡ ltb s m
same_ltb {l} {r} {m} {s} g =
    same_truth (λ t. lt-ltb s m (sign_lt g (ltb-true r l t))) (λ t. lt-ltb r l (sign_lt (sign_back g) (ltb-true s m t)))

-- They have one sign where they are equal times the differences from a to p and to b, which go one way
sign_along : (a p b l r m s : ℕ) → Between a p b → (a ≡ p → ⊥)
    → p * l + a * r + (b * s + a * m) ≡ a * l + p * r + (b * m + a * s) → SameSign l r m s
sign_along a p b l r m s on apart e = at (either_way a p)
  where
    at : (a ≤ p) ⊎ (p < a) → SameSign l r m s
    at (inl h) = by_pairs a p a b (omega arith) (omega arith) e
    at (inr h) = by_pairs p a b a h (omega arith) (omega arith)

-- Apart in a direction
abbrev pub Apart : Point → Point → Type 0
Apart a p = (a.lat.0 ≡ p.lat.0 → ⊥) ⊎ (a.lon.0 ≡ p.lon.0 → ⊥)

-- either way
pub apart_back : {a p : Point} → Apart a p → Apart p a
apart_back (inl apart) = inl (λ e. apart (sym e))
apart_back (inr apart) = inr (λ e. apart (sym e))

module _ (a p b : Point) (on : OnEdge a p b) where
  -- From a on, the sides of the edge are those of its part to p
  pub same_sign : Apart a p → (q : Point) → SameSign (left_sum a b q) (right_sum a b q) (left_sum a p q) (right_sum a p q)
  same_sign (inl apart) q =
      let h : q.lat.0 * left_sum a b p ≡ q.lat.0 * right_sum a b p = ap (λ (x : ℕ). q.lat.0 * x) on.line in
      let k : a.lat.0 * left_sum a b p ≡ a.lat.0 * right_sum a b p = ap (λ (x : ℕ). a.lat.0 * x) on.line in
      sign_along a.lat.0 p.lat.0 b.lat.0 _ _ _ _ on.lat apart (omega arith)
  same_sign (inr apart) q =
      let h : q.lon.0 * left_sum a b p ≡ q.lon.0 * right_sum a b p = ap (λ (x : ℕ). q.lon.0 * x) on.line in
      let k : a.lon.0 * left_sum a b p ≡ a.lon.0 * right_sum a b p = ap (λ (x : ℕ). a.lon.0 * x) on.line in
      sign_along a.lon.0 p.lon.0 b.lon.0 _ _ _ _ on.lon apart (omega arith)

  -- Left of the edge is left of its part, either way
  pub same_left : Apart a p → (q : Point) → left a b q ≡ left a p q
  unfolding left
  same_left apart q = same_ltb (same_sign apart q)

  pub same_left_back : Apart a p → (q : Point) → left b a q ≡ left p a q
  unfolding left
  same_left_back apart q = left_back a b q ∙ same_ltb (sign_other_way (same_sign apart q)) ∙ sym (left_back a p q)

-- The odd count of an edge is that of the two that a point on it makes
pub crosses_set : (q a p b : Point) → OnEdge a p b
    → crosses_east q (edge a b) ≡ differ (crosses_east q (edge a p)) (crosses_east q (edge p b))
unfolding crosses_east
crosses_set q a p b on = at (low a) (low p) (low b) refl refl refl
  where
    low : Point → Bool
    low v = leb v.lat.0 q.lat.0

    high_of : (v : Point) → low v ≡ false → q.lat.0 < v.lat.0
    high_of v e = leb-false v.lat.0 q.lat.0 e

    low_of : (v : Point) → low v ≡ true → v.lat.0 ≤ q.lat.0
    low_of v e = leb-true v.lat.0 q.lat.0 e

    back : OnEdge b p a
    back = on_other_way on

    at : (i j k : Bool) → low a ≡ i → low p ≡ j → low b ≡ k
        → (i && not k && left a b q || k && not i && left b a q)
        ≡ differ (i && not j && left a p q || j && not i && left p a q) (j && not k && left p b q || k && not j && left b p q)
    at true true true ea ep eb = refl
    at true true false ea ep eb =
        ap (λ (x : Bool). x || false) (same_left_back b p a back (inl (λ e. omega (arith, low_of p ep, high_of b eb))) q)
    at true false true ea ep eb = let none : ⊥ = omega (arith, low_of a ea, high_of p ep, low_of b eb, on.lat) in absurd none
    at true false false ea ep eb =
        ap (λ (x : Bool). x || false) (same_left a p b on (inl (λ e. omega (arith, low_of a ea, high_of p ep))) q)
        ∙ sym (differ_false (left a p q || false))
    at false true true ea ep eb =
        same_left_back a p b on (inl (λ e. omega (arith, high_of a ea, low_of p ep))) q ∙ sym (differ_false (left p a q))
    at false true false ea ep eb = let none : ⊥ = omega (arith, high_of a ea, low_of p ep, high_of b eb, on.lat) in absurd none
    at false false true ea ep eb = same_left b p a back (inl (λ e. omega (arith, high_of p ep, low_of b eb))) q
    at false false false ea ep eb = refl
