-- The two parts of an edge at a point on it: the edge misses a rectangle that has wide where both parts do. Assumes nothing.
use Rattle.std.specs.Prelude.{ℕ, ◌+◌, ◌*◌, ◌≤◌, ◌<◌, ◌≡◌, refl, ◌⊎◌, Bool, true, false, ◌&&◌, eqb}
use Rattle.std.proofs.Common.{arith, ap₂, sym, subst, inl, inr}
use Rattle.std.proofs.lemmas.Bool.{eqb-false}
use Rattle.facts.specs.Tests.{both, same_truth}
use Rattle.facts.specs.Numbers.{product_le, either_way}
use Rattle.ground.specs.declared.Point.{Point}
use Rattle.ground.specs.declared.Rectangle.{Rectangle}
use Rattle.ground.specs.Rectangles.{Holds, Wide}
use Rattle.ground.specs.RectanglesLaws.{wide_ordered}
use Rattle.side.specs.Side.{left_sum, right_sum, Leftward}
use Rattle.edge.specs.Edge.{edge, misses, OnEdge}
use Rattle.edge.specs.MissesLaws.{Missed, on_left, on_right, missed, misses_so, missed_back, one_point}
use Rattle.edge.specs.OnEdgeLaws.{on_other_way, sign_other_way, sign_back, sign_le, Apart, same_sign}

-- Both ends are beyond a side
data BeyondSide (a b : Point) (r : Rectangle) : Type 0 where
  west : a.lon.0 ≤ r.west.0 → b.lon.0 ≤ r.west.0 → BeyondSide a b r
  east : r.east.0 ≤ a.lon.0 → r.east.0 ≤ b.lon.0 → BeyondSide a b r
  south : a.lat.0 ≤ r.south.0 → b.lat.0 ≤ r.south.0 → BeyondSide a b r
  north : r.north.0 ≤ a.lat.0 → r.north.0 ≤ b.lat.0 → BeyondSide a b r

-- Missing either way
beyond_back : {a b : Point} {r : Rectangle} → BeyondSide a b r → BeyondSide b a r
beyond_back (west h k) = west k h
beyond_back (east h k) = east k h
beyond_back (south h k) = south k h
beyond_back (north h k) = north k h

-- Two points are apart or one
pub apart_or_one : (a p : Point) → Apart a p ⊎ (a ≡ p)
apart_or_one a p = at (eqb a.lat.0 p.lat.0) (eqb a.lon.0 p.lon.0) refl refl
  where
    at : (i j : Bool) → eqb a.lat.0 p.lat.0 ≡ i → eqb a.lon.0 p.lon.0 ≡ j → Apart a p ⊎ (a ≡ p)
    at false j h k = inl (inl (eqb-false a.lat.0 p.lat.0 h))
    at true false h k = inl (inr (eqb-false a.lon.0 p.lon.0 k))
    at true true h k = inr (one_point (edge a p) (ap₂ ◌&&◌ h k))

-- Right of one way is left of the other
right_of : (a b q : Point) → left_sum a b q ≤ right_sum a b q → Leftward b a q
right_of a b q h = omega arith

right_told : (a b q : Point) → Leftward b a q → left_sum a b q ≤ right_sum a b q
right_told a b q h = omega arith

-- Where an edge misses, so does its part to a point on it
part_missed : {a p b : Point} {r : Rectangle} → OnEdge a p b → Missed (edge a b) r → Missed (edge a p) r
part_missed {a} {p} {b} {r} on m = at (apart_or_one a p) m
  where
    at : Apart a p ⊎ (a ≡ p) → Missed (edge a b) r → Missed (edge a p) r
    at (inr e) m = subst (λ (x : Point). Missed (edge a x) r) e (on_left (λ q o. omega arith))
    at (inl apart) (Missed.west h k) = Missed.west h (omega (arith, on.lon))
    at (inl apart) (Missed.east h k) = Missed.east h (omega (arith, on.lon))
    at (inl apart) (Missed.south h k) = Missed.south h (omega (arith, on.lat))
    at (inl apart) (Missed.north h k) = Missed.north h (omega (arith, on.lat))
    at (inl apart) (on_left f) = on_left (λ q o. sign_le (same_sign a p b on apart q) (f q o))
    at (inl apart) (on_right f) =
        on_right (λ q o. right_of a p q (sign_le (sign_other_way (same_sign a p b on apart q)) (right_told a b q (f q o))))

-- From a to b and from p to q go one way
record OneWay (a b p q : ℕ) : Type 0 where
  product : a * q + b * p ≤ a * p + b * q

both_up : {a b p q : ℕ} → a ≤ b → p ≤ q → OneWay a b p q
both_up h k = record { product = product_le h k }

both_down : {a b p q : ℕ} → b ≤ a → q ≤ p → OneWay a b p q
both_down h k = record { product = omega (arith, product_le h k) }

module _ {a p b : Point} {r : Rectangle} (wide : Wide r) (on : OnEdge a p b) where
  -- A rectangle is left of the line where its points lie north of p as the line goes east, and east of p as it goes south
  left_at : ((q : Point) → Holds r q
      → OneWay a.lon.0 b.lon.0 p.lat.0 q.lat.0 × OneWay b.lat.0 a.lat.0 p.lon.0 q.lon.0)
      → Missed (edge a b) r
  left_at f = on_left (λ q o. let h = f q o in omega (arith, h.0.product, h.1.product, on.line))

  -- and right of it the other way
  right_at : ((q : Point) → Holds r q
      → OneWay b.lon.0 a.lon.0 p.lat.0 q.lat.0 × OneWay a.lat.0 b.lat.0 p.lon.0 q.lon.0)
      → Missed (edge a b) r
  right_at f = on_right (λ q o. let h = f q o in omega (arith, h.0.product, h.1.product, on.line))

  -- It misses where one of two numbers is at most another, and where neither is
  one_of_two : (x y u v : ℕ) → (x ≤ y → Missed (edge a b) r) → (u ≤ v → Missed (edge a b) r) → (y < x → v < u → Missed (edge a b) r)
      → Missed (edge a b) r
  one_of_two x y u v first second neither = at (either_way x y) (either_way u v)
    where
      at : (x ≤ y) ⊎ (y < x) → (u ≤ v) ⊎ (v < u) → Missed (edge a b) r
      at (inl h) k = first h
      at (inr h) (inl k) = second k
      at (inr h) (inr k) = neither h k

  -- One part beyond the west side and the other beyond the south: so is the whole, or the rectangle lies on one side
  west_south : a.lon.0 ≤ r.west.0 → p.lon.0 ≤ r.west.0 → p.lat.0 ≤ r.south.0 → b.lat.0 ≤ r.south.0 → Missed (edge a b) r
  west_south ha hp kp kb =
      one_of_two b.lon.0 r.west.0 a.lat.0 r.south.0 (Missed.west ha) (λ k. Missed.south k kb)
      (λ h k. left_at (λ q o. (both_up (omega arith) (omega arith), both_up (omega arith) (omega arith))))

  west_north : a.lon.0 ≤ r.west.0 → p.lon.0 ≤ r.west.0 → r.north.0 ≤ p.lat.0 → r.north.0 ≤ b.lat.0 → Missed (edge a b) r
  west_north ha hp kp kb =
      one_of_two b.lon.0 r.west.0 r.north.0 a.lat.0 (Missed.west ha) (λ k. Missed.north k kb)
      (λ h k. right_at (λ q o. (both_down (omega arith) (omega arith), both_up (omega arith) (omega arith))))

  east_south : r.east.0 ≤ a.lon.0 → r.east.0 ≤ p.lon.0 → p.lat.0 ≤ r.south.0 → b.lat.0 ≤ r.south.0 → Missed (edge a b) r
  east_south ha hp kp kb =
      one_of_two r.east.0 b.lon.0 a.lat.0 r.south.0 (Missed.east ha) (λ k. Missed.south k kb)
      (λ h k. right_at (λ q o. (both_up (omega arith) (omega arith), both_down (omega arith) (omega arith))))

  east_north : r.east.0 ≤ a.lon.0 → r.east.0 ≤ p.lon.0 → r.north.0 ≤ p.lat.0 → r.north.0 ≤ b.lat.0 → Missed (edge a b) r
  east_north ha hp kp kb =
      one_of_two r.east.0 b.lon.0 r.north.0 a.lat.0 (Missed.east ha) (λ k. Missed.north k kb)
      (λ h k. left_at (λ q o. (both_down (omega arith) (omega arith), both_down (omega arith) (omega arith))))

  -- No number is beyond both of two opposite sides
  not_both : {low high n : ℕ} → low < high → n ≤ low → high ≤ n → Missed (edge a b) r
  not_both h k l = let none : ⊥ = omega arith in absurd none

-- Where the two parts of an edge are beyond sides, the edge misses
module _ {a p b : Point} {r : Rectangle} (wide : Wide r) (on : OnEdge a p b) where
  beyond_both : BeyondSide a p r → BeyondSide p b r → Missed (edge a b) r
  beyond_both (west h k) (west l m) = Missed.west h m
  beyond_both (west h k) (east l m) = not_both wide on wide.across k l
  beyond_both (west h k) (south l m) = west_south wide on h k l m
  beyond_both (west h k) (north l m) = west_north wide on h k l m
  beyond_both (east h k) (west l m) = not_both wide on wide.across l k
  beyond_both (east h k) (east l m) = Missed.east h m
  beyond_both (east h k) (south l m) = east_south wide on h k l m
  beyond_both (east h k) (north l m) = east_north wide on h k l m
  beyond_both (south h k) (west l m) = missed_back (west_south wide (on_other_way on) m l k h)
  beyond_both (south h k) (east l m) = missed_back (east_south wide (on_other_way on) m l k h)
  beyond_both (south h k) (south l m) = Missed.south h m
  beyond_both (south h k) (north l m) = not_both wide on wide.up k l
  beyond_both (north h k) (west l m) = missed_back (west_north wide (on_other_way on) m l k h)
  beyond_both (north h k) (east l m) = missed_back (east_north wide (on_other_way on) m l k h)
  beyond_both (north h k) (south l m) = not_both wide on wide.up l k
  beyond_both (north h k) (north l m) = Missed.north h m

-- Where a part of an edge has all of a rectangle on one side, the edge misses it
part_tells : {a p b : Point} {r : Rectangle} → OnEdge a p b → Apart a p → Missed (edge a p) r → Missed (edge a b) r ⊎ BeyondSide a p r
part_tells on apart (Missed.west h k) = inr (west h k)
part_tells on apart (Missed.east h k) = inr (east h k)
part_tells on apart (Missed.south h k) = inr (south h k)
part_tells on apart (Missed.north h k) = inr (north h k)
part_tells {a} {p} {b} on apart (on_left f) = inl (on_left (λ q o. sign_le (sign_back (same_sign a p b on apart q)) (f q o)))
part_tells {a} {p} {b} on apart (on_right f) =
    inl (on_right (λ q o. right_of a b q (sign_le (sign_other_way (sign_back (same_sign a p b on apart q))) (right_told a p q (f q o)))))

-- Where both parts of an edge miss, so does the edge
whole_missed : {a p b : Point} {r : Rectangle} → Wide r → OnEdge a p b → Missed (edge a p) r → Missed (edge p b) r → Missed (edge a b) r
whole_missed {a} {p} {b} {r} wide on m n = at (apart_or_one a p) (apart_or_one b p)
  where
    ends : Missed (edge a b) r ⊎ BeyondSide a p r → Missed (edge b a) r ⊎ BeyondSide b p r → Missed (edge a b) r
    ends (inl m) n = m
    ends (inr h) (inl n) = missed_back n
    ends (inr h) (inr k) = beyond_both wide on h (beyond_back k)

    at : Apart a p ⊎ (a ≡ p) → Apart b p ⊎ (b ≡ p) → Missed (edge a b) r
    at (inr e) k = subst (λ (x : Point). Missed (edge x b) r) (sym e) n
    at (inl h) (inr e) = subst (λ (x : Point). Missed (edge a x) r) (sym e) m
    at (inl h) (inl k) = ends (part_tells on h m) (part_tells (on_other_way on) k (missed_back n))

-- An edge misses a rectangle with wide where the two edges that a point on it makes do
pub misses_set : (r : Rectangle) → Wide r → (a p b : Point) → OnEdge a p b
    → misses (edge a b) r ≡ (misses (edge a p) r && misses (edge p b) r)
misses_set r wide a p b on = same_truth parts whole
  where
    parts : misses (edge a b) r ≡ true → (misses (edge a p) r && misses (edge p b) r) ≡ true
    parts t =
        let m = missed (edge a b) r t in
        ap₂ ◌&&◌ (misses_so (edge a p) r (wide_ordered wide) (part_missed on m)) (misses_so (edge p b) r (wide_ordered wide) (missed_back (part_missed (on_other_way on) (missed_back m))))

    whole : (misses (edge a p) r && misses (edge p b) r) ≡ true → misses (edge a b) r ≡ true
    whole t =
        let ts = both (misses (edge a p) r) (misses (edge p b) r) t in
        misses_so (edge a b) r (wide_ordered wide) (whole_missed wide on (missed (edge a p) r ts.0) (missed (edge p b) r ts.1))
