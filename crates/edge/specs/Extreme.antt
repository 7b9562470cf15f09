-- Of a rectangle's corners one is furthest right of a line, and tells for all four on which side they lie. Assumes nothing.
use Rattle.std.specs.Prelude.{◌+◌, ◌*◌, ◌≤◌, ◌≡◌, refl, Bool, true, false, cond, ◌&&◌, leb}
use Rattle.std.proofs.Common.{le_refl, le_of_lt, arith, sym, ◌∙◌, leb-true, leb-false, le-leb}
use Rattle.std.proofs.Math.Bool.{and-false}
use Rattle.std.proofs.lemmas.Bool.{false≢true}
use Rattle.ground.specs.declared.Lat.{Lat}
use Rattle.ground.specs.declared.Lon.{Lon}
use Rattle.ground.specs.declared.Point.{Point}
use Rattle.ground.specs.declared.Rectangle.{Rectangle}
use Rattle.side.specs.Side.{left_sum, right_sum, left_or_on}
use Rattle.edge.specs.Edge.{all_left}
use Rattle.facts.specs.Numbers.{product_le}
use Rattle.ground.specs.Rectangles.{Ordered, Holds}

-- Going with or left of the line keeps a point left of it
toward : (a b p q : Point)
    → a.lon.0 * q.lat.0 + b.lon.0 * p.lat.0 ≤ a.lon.0 * p.lat.0 + b.lon.0 * q.lat.0
    → b.lat.0 * q.lon.0 + a.lat.0 * p.lon.0 ≤ b.lat.0 * p.lon.0 + a.lat.0 * q.lon.0
    → left_or_on a b p ≡ true → left_or_on a b q ≡ true
unfolding left_or_on
toward a b p q h k e = le-leb (right_sum a b q) (left_sum a b q) (omega (arith, leb-true (right_sum a b p) (left_sum a b p) e))

-- The corner that is furthest right of the line from a to b
abbrev pub extreme_lat : Point → Point → Rectangle → Lat
extreme_lat a b r = cond (leb a.lon.0 b.lon.0) r.south r.north

abbrev pub extreme_lon : Point → Point → Rectangle → Lon
extreme_lon a b r = cond (leb a.lat.0 b.lat.0) r.east r.west

abbrev pub extreme : Point → Point → Rectangle → Point
extreme a b r = record { lat = extreme_lat a b r; lon = extreme_lon a b r }

-- Where it is left of the line or on it, so is every point of the rectangle
pub held_left : (a b q : Point) (r : Rectangle) → Holds r q → left_or_on a b (extreme a b r) ≡ true → left_or_on a b q ≡ true
held_left a b q r h e =
    toward a b (extreme a b r) q (by_lat (leb a.lon.0 b.lon.0) refl) (by_lon (leb a.lat.0 b.lat.0) refl) e
  where
    by_lat : (t : Bool) → leb a.lon.0 b.lon.0 ≡ t
        → a.lon.0 * q.lat.0 + b.lon.0 * (cond t r.south r.north).0
        ≤ a.lon.0 * (cond t r.south r.north).0 + b.lon.0 * q.lat.0
    by_lat true k = product_le (leb-true a.lon.0 b.lon.0 k) h.south
    by_lat false k = omega (arith, product_le (le_of_lt (leb-false a.lon.0 b.lon.0 k)) h.north)

    by_lon : (t : Bool) → leb a.lat.0 b.lat.0 ≡ t
        → b.lat.0 * q.lon.0 + a.lat.0 * (cond t r.east r.west).0
        ≤ b.lat.0 * (cond t r.east r.west).0 + a.lat.0 * q.lon.0
    by_lon true k = omega (arith, product_le (leb-true a.lat.0 b.lat.0 k) h.east)
    by_lon false k = omega (arith, product_le (le_of_lt (leb-false a.lat.0 b.lat.0 k)) h.west)

-- So it tells for all four corners
pub all_left_lem : (a b : Point) (r : Rectangle) → Ordered r → all_left a b r ≡ left_or_on a b (extreme a b r)
all_left_lem a b r o = at (left_or_on a b (extreme a b r)) refl
  where
    corner : (y : Lat) (x : Lon) → Holds r (record { lat = y; lon = x }) → left_or_on a b (extreme a b r) ≡ true
        → left_or_on a b (record { lat = y; lon = x }) ≡ true
    corner y x = held_left a b (record { lat = y; lon = x }) r

    one : (t u : Bool) → left_or_on a b (record { lat = cond t r.south r.north; lon = cond u r.east r.west }) ≡ false
        → all_left a b r ≡ false
    one true true e = rw (e, and-false)
    one true false e = rw e
    one false true e = rw (e, and-false)
    one false false e = rw (e, and-false)

    at : (t : Bool) → left_or_on a b (extreme a b r) ≡ t → all_left a b r ≡ t
    at true e =
        rw (
          corner r.south r.west (record { west = le_refl _; east = o.across; south = le_refl _; north = o.up }) e,
          corner r.south r.east (record { west = o.across; east = le_refl _; south = le_refl _; north = o.up }) e,
          corner r.north r.west (record { west = le_refl _; east = o.across; south = o.up; north = le_refl _ }) e,
          corner r.north r.east (record { west = o.across; east = le_refl _; south = o.up; north = le_refl _ }) e,
        )
    at false e = one (leb a.lon.0 b.lon.0) (leb a.lat.0 b.lat.0) e

-- Sides that are found in order are
pub found_ordered : (r : Rectangle) {s : Bool} → s ≡ (leb r.west.0 r.east.0 && leb r.south.0 r.north.0) → s ≡ true → Ordered r
found_ordered r e k = at (leb r.west.0 r.east.0) refl (leb r.south.0 r.north.0) refl (sym e ∙ k)
  where
    at : (t : Bool) → leb r.west.0 r.east.0 ≡ t → (u : Bool) → leb r.south.0 r.north.0 ≡ u → (t && u) ≡ true → Ordered r
    at true l true m h = record { across = leb-true r.west.0 r.east.0 l; up = leb-true r.south.0 r.north.0 m }
    at true l false m h = absurd (false≢true h)
    at false l u m h = absurd (false≢true h)
