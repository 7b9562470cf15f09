-- Ground that is inside (document 01, "The cell inside"): no edge meets ground within it, the count is odd at each of its points, and a
-- notch between its corners is seen. Assumes nothing.
use Rattle.std.specs.Prelude.{◌≡◌, refl, Bool, true, false, ◌&&◌, List, [], ◌∷◌, Some}
use Rattle.std.proofs.Common.{ap, ap₂, sym, ◌∙◌}
use Rattle.facts.specs.Tests.{both}
use Rattle.facts.specs.Lists.{Each}
use Rattle.ground.specs.declared.Point.{Point}
use Rattle.ground.specs.declared.Rectangle.{Rectangle}
use Rattle.ground.specs.declared.Cell.{Cell}
use Rattle.ground.specs.Levels.{lat, lon, size_of}
use Rattle.ground.specs.Rectangles.{at, Within, Lies, Ordered, Wide, centre_of}
use Rattle.ground.specs.RectanglesLaws.{wide_ordered, centre_lies, lies_within, lies_wide}
use Rattle.ground.specs.Cells.{afresh, high_side, sides_of, is_cell, sides_found}
use Rattle.ground.proofs.CellsLaws.{found_of}
use Rattle.side.specs.Side.{left, left_or_on}
use Rattle.edge.specs.Edge.{Edge, misses, crosses_east}
use Rattle.edge.specs.MissesLaws.{misses_within}
use Rattle.boundary.specs.Boundary.{edges_of, point_inside, unmet, ground_inside, inside}
use Rattle.boundary.specs.Closed.{Closed, same_inside}

-- A notch between the corners of a cell (document 01, "Easy errors here"): a square of three cells of level 27 each way, with a notch in its
-- south side that ends within the middle cell
abbrev notched : List Point
notched =
    at (lat 0) (lon 0) ∷ at (lat 0) (lon 52) ∷ at (lat 40) (lon 54) ∷ at (lat 0) (lon 56)
    ∷ at (lat 0) (lon 96) ∷ at (lat 96) (lon 96) ∷ at (lat 96) (lon 0) ∷ []

abbrev middle : Cell
middle = record { level = 27; west = lon 32; south = lat 32 }

-- The cell's four corners and its centre are inside
pub notch_apart : let r : Rectangle = sides_of middle in
    Each (λ (p : Point). point_inside p (edges_of notched) ≡ true)
    (at r.south r.west ∷ at r.south r.east ∷ at r.north r.west ∷ at r.north r.east ∷ centre_of r ∷ [])
unfolding edges_of crosses_east left centre_of sides_of high_side afresh size_of
notch_apart = (refl, (refl, (refl, (refl, (refl, tt)))))

-- and the cell is not, since the notch's edges meet it
pub notch_seen : inside (edges_of notched) middle ≡ false
unfolding ground_inside edges_of misses left_or_on crosses_east left centre_of sides_of high_side afresh size_of
notch_seen = refl

-- Edges that miss a rectangle miss every rectangle within it
pub unmet_within : {r s : Rectangle} → Ordered r → Within r s → (es : List Edge) → unmet s es ≡ true → unmet r es ≡ true
unmet_within o h [] t = refl
unmet_within {r} {s} o h (e ∷ es) t =
    let ts = both (misses e s) (unmet s es) t in
    ap₂ ◌&&◌ (misses_within o h e ts.0) (unmet_within o h es ts.1)

-- Ground that no edge meets is inside where one of its points is
pub point_ground : {es : List Edge} → Closed es → {r : Rectangle} → unmet r es ≡ true → {p : Point} → Lies r p
    → ground_inside es r ≡ point_inside p es
unfolding ground_inside
point_ground {es} c {r} u {p} k = ap₂ ◌&&◌ u (same_inside (centre_lies (lies_wide k)) k c u)

module _ (es : List Edge) (s : Rectangle) (t : ground_inside es s ≡ true) where
  parts : (unmet s es ≡ true) × (point_inside (centre_of s) es ≡ true)
  unfolding ground_inside
  parts = both (unmet s es) (point_inside (centre_of s) es) t

  -- No edge meets ground that is inside
  pub inside_unmet : unmet s es ≡ true
  inside_unmet = parts.0

  module _ (c : Closed es) where
    -- The count is odd at each of its points
    pub inside_point : {p : Point} → Lies s p → point_inside p es ≡ true
    inside_point k = same_inside k (centre_lies (lies_wide k)) c parts.0 ∙ parts.1

    -- and wide ground within it is inside
    pub inside_within : {r : Rectangle} → Wide r → Within r s → ground_inside es r ≡ true
    inside_within w h =
        point_ground c (unmet_within (wide_ordered w) h es parts.0) (centre_lies w) ∙ inside_point (lies_within h (centre_lies w))

-- A cell is inside when no edge meets the sides found and their centre is inside
pub inside_found : (es : List Edge) (c : Cell) (r : Rectangle) → Some r ≡ sides_found c
    → (unmet r es && point_inside (centre_of r) es) ≡ (is_cell c && inside es c)
unfolding ground_inside
inside_found es c r e =
    let found = found_of c r e in
    ap (λ (s : Rectangle). unmet s es && point_inside (centre_of s) es) found.1
    ∙ ap (λ (t : Bool). t && (unmet (sides_of c) es && point_inside (centre_of (sides_of c)) es)) (sym found.0)
