-- The fields of a unit from their parts: a cell's reference, the spans from it at a level, and the level of the code. Assumes nothing.
use Rattle.std.specs.Prelude.{ℕ, ◌+◌, ◌-◌, ◌*◌, ◌/◌, ◌^◌, ◌≤◌, ◌<◌, ◌≡◌, Bool, false, cond, eqb}
use Rattle.std.proofs.Common.{div-mul-le_self, mul-le-mul_left, arith, sym, subst, eq-eqb}
use Rattle.ground.specs.declared.Point.{Point}
use Rattle.ground.specs.declared.Rectangle.{Rectangle}
use Rattle.ground.specs.declared.Cell.{Cell}
use Rattle.angles.specs.Angles.{distance}
use Rattle.ground.specs.Levels.{lat, lon, IsLevel, smallest_size, size_of}
use Rattle.ground.proofs.LevelsLaws.{size_least}
use Rattle.ground.specs.Cells.{sides_of, location_level, location_size, location_cell, corner_of}
use Rattle.ground.specs.Rectangles.{centre_of}
use Rattle.code.specs.declared.Fields.{Fields}
use Rattle.unit.specs.Extents.{span_of}
use Rattle.unit.specs.Unit.{scale_of, span_cells, fields_at, above31, coarser, level_of, fields_of}
use Rattle.unit.specs.ScaleLaws.{scale_level, coarser_level}

-- A span is within a u32
pub cells_most : (s d : ℕ) → smallest_size ≤ s → d < 4294967296 → s < 4294967296 → (d + (s - 1)) / s ≤ 2 ^ 33 / smallest_size
cells_most s d h k l =
    let q : ℕ = (d + (s - 1)) / s in
    let most : q * s ≤ d + (s - 1) = div-mul-le_self (d + (s - 1)) s in
    let wide : q * smallest_size ≤ q * s = mul-le-mul_left q h in
    omega arith

-- The reference of a cell of the location cell's level is its own corner
pub reference_own : (c : Cell) → c.level ≡ location_level → corner_of c ≡ corner_of (location_cell c)
unfolding location_cell
reference_own c e = rw (eq-eqb c.level location_level e)

-- and of another the centre less that level's size
pub reference_centre : (c : Cell) → eqb c.level location_level ≡ false → {p : Point} → p ≡ centre_of (sides_of c)
    → ◌≡◌ {A = Point} (record { lat = lat (p.lat.0 - location_size); lon = lon (p.lon.0 - location_size) }) (corner_of (location_cell c))
unfolding location_cell size_of
reference_centre c e {p} k = rw (e, k)

-- A level's size is one to divide by
pub cells_size : {level s : ℕ} → IsLevel level → s ≡ size_of level → smallest_size ≤ s
cells_size {level} l e = subst (λ (x : ℕ). smallest_size ≤ x) (sym e) (size_least level l)

-- The fields at a level from their parts
pub fields_made : (level : ℕ) (r : Rectangle) (number : ℕ) (p : Point) {s e w so n : ℕ} → s ≡ size_of level
    → e ≡ span_cells s (distance p.lon.0 r.east.0) → w ≡ span_cells s (distance p.lon.0 r.west.0)
    → so ≡ span_cells s (distance p.lat.0 r.south.0) → n ≡ span_cells s (distance p.lat.0 r.north.0)
    → ◌≡◌ {A = Fields} (record { reference = p; scale = level; east = e; west = w; south = so; north = n; number = number })
    (fields_at level r number p)
unfolding fields_at
fields_made level r number p hs he hw ho hn = rw (he, hw, ho, hn, hs)

-- The level that is tried first is a level
pub first_level : (span : ℕ) {level : ℕ} → level ≡ scale_of span → IsLevel level
first_level span e = subst IsLevel (sym e) (scale_level span)

-- and so is one coarser
pub next_level : {level next : ℕ} → IsLevel level → next ≡ coarser level → IsLevel next
next_level l e = subst IsLevel (sym e) (coarser_level l)

-- The fields of a cell are those at this level, or, where any of the four is above 31, all afresh one level coarser
pub fields_decided : (r : Rectangle) (number : ℕ) (c : Cell) {p : Point} {span level : ℕ} {f : Fields} → p ≡ corner_of (location_cell c)
    → span ≡ span_of r → level ≡ scale_of span → f ≡ fields_at level r number p → {b : Bool} → above31 f ≡ b
    → fields_at (cond b (coarser level) level) r number p ≡ fields_of r number c
unfolding fields_of level_of
fields_decided r number c hp hr hl hf e = rw (sym e, hf, hl, hr, hp)
