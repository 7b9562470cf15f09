-- The laws of a unit's extents: they hold each corner, their sides are in order, and those of corners within the range end within it; so
-- a search over them may take for granted what `Over` says. Assumes nothing.
use Rattle.std.specs.Prelude.{ℕ, ◌≤◌, min, max, List, [], ◌∷◌, map}
use Rattle.std.proofs.Common.{arith}
use Rattle.facts.specs.Lists.{Each}
use Rattle.ground.specs.declared.Point.{Point}
use Rattle.ground.specs.declared.Rectangle.{Rectangle}
use Rattle.ground.specs.Levels.{lat_end, lon_end}
use Rattle.ground.specs.Rectangles.{Holds, Ordered}
use Rattle.boundary.specs.Boundary.{edges_of}
use Rattle.boundary.specs.Closed.{edges_closed, ends_edges}
use Rattle.chosen.specs.Chosen.{Over}
use Rattle.unit.specs.Extents.{least_from, greatest_from, least, greatest, lats, lons, extremes_of}

-- The least of some angles is at most each
least_from_lem : (x : ℕ) (ys : List ℕ) → (least_from x ys ≤ x) × Each (λ (y : ℕ). least_from x ys ≤ y) ys
least_from_lem x [] = (omega arith, tt)
least_from_lem x (y ∷ ys) = let t = least_from_lem (min x y) ys in (omega (arith, t.0), (omega (arith, t.0), t.1))

least_each : (xs : List ℕ) → Each (λ (y : ℕ). least xs ≤ y) xs
least_each [] = tt
least_each (x ∷ xs) = least_from_lem x xs

-- and the greatest at least each
greatest_from_lem : (x : ℕ) (ys : List ℕ) → (x ≤ greatest_from x ys) × Each (λ (y : ℕ). y ≤ greatest_from x ys) ys
greatest_from_lem x [] = (omega arith, tt)
greatest_from_lem x (y ∷ ys) = let t = greatest_from_lem (max x y) ys in (omega (arith, t.0), (omega (arith, t.0), t.1))

greatest_each : (xs : List ℕ) → Each (λ (y : ℕ). y ≤ greatest xs) xs
greatest_each [] = tt
greatest_each (x ∷ xs) = greatest_from_lem x xs

-- so the least is at most the greatest
least_greatest : (xs : List ℕ) → least xs ≤ greatest xs
least_greatest [] = omega arith
least_greatest (x ∷ xs) = omega (arith, (least_from_lem x xs).0, (greatest_from_lem x xs).0)

-- A rectangle holds each of the corners whose angles are between its sides
hold_each : (r : Rectangle) (corners : List Point) → Each (λ (x : ℕ). r.west.0 ≤ x) (lons corners)
    → Each (λ (x : ℕ). x ≤ r.east.0) (lons corners) → Each (λ (y : ℕ). r.south.0 ≤ y) (lats corners)
    → Each (λ (y : ℕ). y ≤ r.north.0) (lats corners) → Each (Holds r) corners
hold_each r [] w e s n = tt
hold_each r (v ∷ vs) w e s n =
    (record { west = w.0; east = e.0; south = s.0; north = n.0 }, hold_each r vs w.1 e.1 s.1 n.1)

-- The unit's extremes hold each corner
pub extremes_hold : (corners : List Point) → Each (Holds (extremes_of corners)) corners
unfolding extremes_of
extremes_hold corners =
    hold_each (extremes_of corners) corners (least_each (lons corners)) (greatest_each (lons corners)) (least_each (lats corners))
    (greatest_each (lats corners))

-- and are in order
extremes_order : (corners : List Point) → Ordered (extremes_of corners)
unfolding extremes_of
extremes_order corners = record { across = least_greatest (lons corners); up = least_greatest (lats corners) }

-- Every corner is within the range
pub record InRange (corners : List Point) : Type 0 where
  pub lat : Each (λ (p : Point). p.lat.0 ≤ lat_end) corners
  pub lon : Each (λ (p : Point). p.lon.0 ≤ lon_end) corners

-- The greatest of some angles is at most what each is at most
greatest_from_most : (f : Point → ℕ) (m x : ℕ) (vs : List Point) → x ≤ m → Each (λ (v : Point). f v ≤ m) vs → greatest_from x (map f vs) ≤ m
greatest_from_most f m x [] h t = h
greatest_from_most f m x (v ∷ vs) h t = greatest_from_most f m (max x (f v)) vs (omega (arith, t.0)) t.1

greatest_most : (f : Point → ℕ) (m : ℕ) (vs : List Point) → Each (λ (v : Point). f v ≤ m) vs → greatest (map f vs) ≤ m
greatest_most f m [] t = omega arith
greatest_most f m (v ∷ vs) t = greatest_from_most f m (f v) vs t.0 t.1

-- The extents of corners within the range end within it
range_ends : (corners : List Point) → InRange corners → ((extremes_of corners).east.0 ≤ lon_end) × ((extremes_of corners).north.0 ≤ lat_end)
unfolding extremes_of
range_ends corners range = (greatest_most (λ p. p.lon.0) lon_end corners range.lon, greatest_most (λ p. p.lat.0) lat_end corners range.lat)

-- A search over the extents and the edges of corners within the range may take for granted what it does
pub over_range : (corners : List Point) → InRange corners → Over (extremes_of corners) (edges_of corners)
over_range corners range =
    record {
      closed = edges_closed corners;
      held = ends_edges (Holds (extremes_of corners)) corners (extremes_hold corners);
      order = extremes_order corners;
      east_end = (range_ends corners range).0;
      north_end = (range_ends corners range).1;
    }
