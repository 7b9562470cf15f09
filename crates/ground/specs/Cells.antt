-- Cells (document 01, "Angles and grid" and "The cell inside"): their cuts and sides, which cells there are, and the location cell. Each
-- direction by itself is an angle; a latitude and a longitude stay apart. Assumes nothing.
use Rattle.std.specs.Prelude.{ℕ, ◌+◌, ◌-◌, ◌*◌, ◌/◌, ◌%◌, ◌≤◌, min, ◌≡◌, Bool, cond, ◌&&◌, leb, eqb, Option, Some, None}
use Rattle.ground.specs.declared.Point.{Point}
use Rattle.ground.specs.declared.Rectangle.{Rectangle}
use Rattle.ground.specs.declared.Cell.{Cell}
use Rattle.ground.specs.Levels.{lat, lon, degree, minute, lat_end, lon_end, coarsest_level, finest_level, IsLevel, size_of, minute_level}
use Rattle.ground.specs.Rectangles.{centre_of}

-- Cells of levels 10 to 15 start afresh at each whole degree, cells of levels 16 and up at each whole minute
unfoldable pub afresh : ℕ → ℕ
afresh level = cond (leb level minute_level) degree minute

-- Where the cells around an angle started afresh
abbrev pub start_of : ℕ → ℕ → ℕ
start_of level a = a / afresh level * afresh level

-- The low side, west or south, of the cell of a level that an angle lies in
unfoldable pub low_side : ℕ → ℕ → ℕ
low_side level a = start_of level a + a % afresh level / size_of level * size_of level

-- Its high side, from the low one; a cell that would pass 60 minutes or 60 seconds is cut there
unfoldable pub high_side : ℕ → ℕ → ℕ
high_side level a = min (a + size_of level) (start_of level a + afresh level)

-- A cell's sides, in each direction by itself
unfoldable pub sides_of : Cell → Rectangle
sides_of c = record {
  west = c.west;
  east = lon (high_side c.level c.west.0);
  south = c.south;
  north = lat (high_side c.level c.south.0);
}

-- The cells of levels 9 to 27 that lie within the range
pub record IsCell (c : Cell) : Type 0 where
  pub level : IsLevel c.level
  pub west : low_side c.level c.west.0 ≡ c.west.0
  pub south : low_side c.level c.south.0 ≡ c.south.0
  pub east_end : (sides_of c).east.0 ≤ lon_end
  pub north_end : (sides_of c).north.0 ≤ lat_end

-- The level of the location cell, whatever the finest is, and its nominal size
abbrev pub location_level : ℕ
location_level = 27

abbrev pub location_size : ℕ
location_size = 32

-- The location cell is the level 27 cell whose north-east corner is that centre; for a cell of level 27 it is that cell itself
unfoldable pub location_cell : Cell → Cell
location_cell c =
    cond (eqb c.level location_level) c
    (record {
      level = location_level;
      west = lon ((centre_of (sides_of c)).lon.0 - location_size);
      south = lat ((centre_of (sides_of c)).lat.0 - location_size);
    })

-- The south-west corner of a cell
abbrev pub corner_of : Cell → Point
corner_of c = record { lat = c.south; lon = c.west }

-- The same as a computation: an angle is the low side of a cell of a level that ends at or before an end of the range
unfoldable pub is_side : ℕ → ℕ → ℕ → Bool
is_side level a end = eqb (low_side level a) a && leb (high_side level a) end

-- A cell of levels 9 to 27 within the range
unfoldable pub is_cell : Cell → Bool
is_cell c =
    leb coarsest_level c.level && leb c.level finest_level && is_side c.level c.west.0 lon_end
    && is_side c.level c.south.0 lat_end

-- Its sides, or none
unfoldable pub sides_found : Cell → Option Rectangle
sides_found c = cond (is_cell c) (Some (sides_of c)) None
