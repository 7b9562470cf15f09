-- Rectangles of ground: their sides, points and parts (document 01, "The cell inside" and "Scale"). Each direction by itself is an angle; a
-- latitude and a longitude stay apart. Assumes nothing.
use Rattle.std.specs.Prelude.{ℕ, ◌+◌, ◌/◌, ◌≤◌, ◌<◌, min, max}
use Rattle.ground.specs.declared.Lat.{Lat}
use Rattle.ground.specs.declared.Lon.{Lon}
use Rattle.ground.specs.declared.Point.{Point}
use Rattle.ground.specs.declared.Rectangle.{Rectangle}
use Rattle.ground.specs.Levels.{lat, lon}

-- The point at a latitude and a longitude
abbrev pub at : Lat → Lon → Point
at y x = record { lat = y; lon = x }

-- A rectangle within another
pub record Within (r s : Rectangle) : Type 0 where
  pub west : s.west.0 ≤ r.west.0
  pub east : r.east.0 ≤ s.east.0
  pub south : s.south.0 ≤ r.south.0
  pub north : r.north.0 ≤ s.north.0

-- A point of a rectangle, its sides included
pub record Holds (r : Rectangle) (p : Point) : Type 0 where
  pub west : r.west.0 ≤ p.lon.0
  pub east : p.lon.0 ≤ r.east.0
  pub south : r.south.0 ≤ p.lat.0
  pub north : p.lat.0 ≤ r.north.0

-- A point of a rectangle, its east and north sides left out
pub record Lies (r : Rectangle) (p : Point) : Type 0 where
  pub west : r.west.0 ≤ p.lon.0
  pub east : p.lon.0 < r.east.0
  pub south : r.south.0 ≤ p.lat.0
  pub north : p.lat.0 < r.north.0

-- The sides of a rectangle are in order
pub record Ordered (r : Rectangle) : Type 0 where
  pub across : r.west.0 ≤ r.east.0
  pub up : r.south.0 ≤ r.north.0

-- and apart
pub record Wide (r : Rectangle) : Type 0 where
  pub across : r.west.0 < r.east.0
  pub up : r.south.0 < r.north.0

-- The south-west corner of a rectangle
abbrev pub south_west : Rectangle → Point
south_west r = at r.south r.west

-- The centre is halfway on the ground, cuts included
abbrev pub halfway : ℕ → ℕ → ℕ
halfway a b = (a + b) / 2

unfoldable pub centre_of : Rectangle → Point
centre_of r = at (lat (halfway r.south.0 r.north.0)) (lon (halfway r.west.0 r.east.0))

-- The parts of a rectangle south and north of a latitude, west and east of a longitude
abbrev pub south_of : Rectangle → Lat → Rectangle
south_of r y = record { west = r.west; east = r.east; south = r.south; north = y }

abbrev pub north_of : Rectangle → Lat → Rectangle
north_of r y = record { west = r.west; east = r.east; south = y; north = r.north }

abbrev pub west_of : Rectangle → Lon → Rectangle
west_of r x = record { west = r.west; east = x; south = r.south; north = r.north }

abbrev pub east_of : Rectangle → Lon → Rectangle
east_of r x = record { west = x; east = r.east; south = r.south; north = r.north }

-- A rectangle widened to hold a point
abbrev pub widened : Rectangle → Point → Rectangle
widened r p = record {
  west = lon (min r.west.0 p.lon.0);
  east = lon (max r.east.0 p.lon.0);
  south = lat (min r.south.0 p.lat.0);
  north = lat (max r.north.0 p.lat.0);
}
