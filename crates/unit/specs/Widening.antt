-- A rectangle that is widened corner by corner until it is the unit's extremes. Assumes nothing.
use Rattle.std.specs.Prelude.{ℕ, ◌+◌, ◌/◌, ◌<◌, ◌≤◌, ◌≡◌, refl, List, [], ◌∷◌, length, drop}
use Rattle.std.proofs.Common.{add-one, arith, ap, ap₂, sym, ◌∙◌, drop_of_length-le}
use Rattle.ground.specs.declared.Point.{Point}
use Rattle.ground.specs.declared.Rectangle.{Rectangle}
use Rattle.ground.specs.Levels.{lat, lon}
use Rattle.ground.specs.Rectangles.{widened}
use Rattle.corners.specs.Corners.{corners_of, corner_at, corners_length, corners_from}
use Rattle.unit.specs.Extents.{least_from, greatest_from, lats, lons, extremes_of}

-- A rectangle widened to hold some points
abbrev pub widened_by : Rectangle → List Point → Rectangle
widened_by r [] = r
widened_by r (p ∷ ps) = widened_by (widened r p) ps

-- A rectangle of one point
abbrev pub around : Point → Rectangle
around p = record { west = p.lon; east = p.lon; south = p.lat; north = p.lat }

widened_sides : (r : Rectangle) (ps : List Point)
    → widened_by r ps
    ≡ record {
      west = lon (least_from r.west.0 (lons ps));
      east = lon (greatest_from r.east.0 (lons ps));
      south = lat (least_from r.south.0 (lats ps));
      north = lat (greatest_from r.north.0 (lats ps));
    }
widened_sides r [] = refl
widened_sides r (p ∷ ps) = widened_sides (widened r p) ps

-- The extremes of a unit are its first corner, widened to hold the others
pub extremes_widened : (c : Point) (cs : List Point) → extremes_of (c ∷ cs) ≡ widened_by (around c) cs
unfolding extremes_of
extremes_widened c cs = sym (widened_sides (around c) cs)

-- A loop that has widened a rectangle to hold the corners before place i
pub record Reached (numbers : List ℕ) (r : Rectangle) (i : ℕ) : Type 0 where
  pub within : i ≤ length numbers / 2
  pub whole : extremes_of (corners_of numbers) ≡ widened_by r (drop i (corners_of numbers))

pub reach_begin : (numbers : List ℕ) (first : Point) → 0 < length numbers / 2 → first ≡ corner_at numbers 0 → Reached numbers (around first) 1
reach_begin numbers first h e =
    let rest : List Point = drop 1 (corners_of numbers) in
    record {
      within = omega arith;
      whole =
          ap extremes_of (corners_from numbers 0 h ∙ ap (λ (p : Point). p ∷ rest) (sym e)) ∙ extremes_widened first rest;
    }

pub reach_again : (numbers : List ℕ) {r : Rectangle} {i : ℕ} (next : Point) → Reached numbers r i → i < length numbers / 2
    → next ≡ corner_at numbers i → Reached numbers (widened r next) (i + 1)
reach_again numbers {r} {i} next w h e = record {
  within = omega arith;
  whole =
      w.whole
      ∙ ap (widened_by r) (corners_from numbers i h)
      ∙ ap₂ (λ (p : Point) (k : ℕ). widened_by r (p ∷ drop k (corners_of numbers))) (sym e) (sym (add-one i));
}

pub reach_end : (numbers : List ℕ) {r : Rectangle} {i : ℕ} → Reached numbers r i → length numbers / 2 ≤ i
    → r ≡ extremes_of (corners_of numbers)
reach_end numbers {r} {i} w h =
    let over : length (corners_of numbers) ≤ i = omega (arith, corners_length numbers) in
    sym (w.whole ∙ ap (widened_by r) (drop_of_length-le (corners_of numbers) over))
