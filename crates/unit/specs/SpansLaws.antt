-- The laws of reference and spans: the reference of a cell that is inside lies within the extents; and the spans from a reference within
-- the extents, at a level as a parameter, are at least what reading asks of them, and at most one more than the sizes that the larger
-- extent takes. Assumes nothing.
use Rattle.std.specs.Prelude.{ℕ, ◌+◌, ◌-◌, ◌*◌, ◌/◌, ◌≤◌, ◌<◌, ◌≡◌, true, List}
use Rattle.std.proofs.Common.{le-div_iff_mul-le, div-lt_iff_lt-mul, arith}
use Rattle.ground.specs.declared.Point.{Point}
use Rattle.ground.specs.declared.Rectangle.{Rectangle}
use Rattle.ground.specs.declared.Cell.{Cell}
use Rattle.angles.specs.Angles.{distance}
use Rattle.ground.specs.Levels.{IsLevel, size_of}
use Rattle.ground.proofs.LevelsLaws.{size_least}
use Rattle.ground.specs.Cells.{sides_of, IsCell, location_cell, corner_of}
use Rattle.ground.proofs.CellsLaws.{Reference, located}
use Rattle.code.specs.declared.Fields.{Fields}
use Rattle.edge.specs.Edge.{Edge}
use Rattle.boundary.specs.Boundary.{inside}
use Rattle.chosen.specs.Chosen.{Over}
use Rattle.chosen.specs.InExtents.{in_extents}
use Rattle.unit.specs.Extents.{span_of}
use Rattle.unit.specs.Unit.{span_cells, fields_at}

-- A reference within the extents
pub record ReferenceIn (r : Rectangle) (p : Point) : Type 0 where
  pub lat : Reference r.south.0 r.north.0 p.lat.0
  pub lon : Reference r.west.0 r.east.0 p.lon.0

-- The reference of a cell that is inside is one
pub reference_in_lem : {r : Rectangle} {es : List Edge} → Over r es → (c : Cell) → IsCell c → inside es c ≡ true
    → ReferenceIn r (corner_of (location_cell c))
unfolding sides_of
reference_in_lem o c is t =
    let near = located c is in
    let within = in_extents o c is t in
    record { lat = omega (arith, near.lat, within.south, within.north); lon = omega (arith, near.lon, within.west, within.east) }

-- The spans of fields are at least what reading asks of them
pub record SpansLeast (f : Fields) : Type 0 where
  pub east : 2 ≤ f.east
  pub west : 1 ≤ f.west
  pub south : 1 ≤ f.south
  pub north : 2 ≤ f.north

-- They are at most so many
pub record SpansMost (n : ℕ) (f : Fields) : Type 0 where
  pub east : f.east ≤ n
  pub west : f.west ≤ n
  pub south : f.south ≤ n
  pub north : f.north ≤ n

module _ (s : ℕ) (some : 0 < s) where
  -- From a reference between two ends, the span to the high end is at least 2, and to the low one at least 1
  ends_least : {a b r : ℕ} → Reference a b r → (1 ≤ span_cells s (distance r a)) × (2 ≤ span_cells s (distance r b))
  ends_least {a} {b} {r} h =
      let one : 1 ≤ (distance r b + (s - 1)) / s = (le-div_iff_mul-le some).1 (omega arith) in
      (omega arith, omega arith)

  -- A distance of at most so many sizes has a span of at most one more
  span_within : (n d : ℕ) → d ≤ n * s → span_cells s d ≤ n + 1
  span_within n d h =
      let few : (d + (s - 1)) / s < n + 1 = (div-lt_iff_lt-mul some).1 (omega arith) in
      omega arith

-- At a level, and from a reference within the extents
module _ {r : Rectangle} {p : Point} (w : ReferenceIn r p) (level : ℕ) (l : IsLevel level) (number : ℕ) where
  some : 0 < size_of level
  some = omega (arith, size_least level l)

  -- the spans are at least what reading asks of them
  pub spans_least : SpansLeast (fields_at level r number p)
  unfolding fields_at
  spans_least =
      let lon = ends_least (size_of level) some w.lon in
      let lat = ends_least (size_of level) some w.lat in
      record { east = lon.1; west = lon.0; south = lat.0; north = lat.1 }

  -- and at most one more than so many sizes that the larger extent does not pass
  pub spans_most : (n : ℕ) → span_of r ≤ n * size_of level → SpansMost (n + 1) (fields_at level r number p)
  unfolding fields_at
  spans_most n h =
      let most = span_within (size_of level) some n in
      record {
        east = most (distance p.lon.0 r.east.0) (omega (arith, w.lon));
        west = most (distance p.lon.0 r.west.0) (omega (arith, w.lon));
        south = most (distance p.lat.0 r.south.0) (omega (arith, w.lat));
        north = most (distance p.lat.0 r.north.0) (omega (arith, w.lat));
      }
