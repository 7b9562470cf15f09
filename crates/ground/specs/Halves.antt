-- Halves (document 01, "What the work covers"): ground that follows the cells, where it is halved, and how narrow cells are. Assumes nothing.
use Rattle.std.specs.Prelude.{ℕ, ◌+◌, ◌%◌, ◌≤◌, min, ◌≡◌, cond, eqb}
use Rattle.ground.specs.declared.Lat.{Lat}
use Rattle.ground.specs.declared.Lon.{Lon}
use Rattle.ground.specs.declared.Rectangle.{Rectangle}
use Rattle.ground.specs.Levels.{lat, lon, lat_end, lon_end, size_of}
use Rattle.ground.specs.Cells.{afresh, low_side, high_side}

-- A length of ground in one direction that is a cell's of a level: from its low to its high side
pub record Span (level a b : ℕ) : Type 0 where
  pub low : low_side level a ≡ a
  pub high : b ≡ high_side level a

-- Ground within the range that is a cell's of one level by latitude, and of one by longitude
pub record Ground (lat_level lon_level : ℕ) (r : Rectangle) : Type 0 where
  pub lat : Span lat_level r.south.0 r.north.0
  pub lon : Span lon_level r.west.0 r.east.0
  pub north_end : r.north.0 ≤ lat_end
  pub east_end : r.east.0 ≤ lon_end

-- Where a length of ground is halved into cells of the next level: a degree or a minute at 32, cut ground unevenly, or at its end where it
-- is not split
abbrev pub split_at : ℕ → ℕ → ℕ → ℕ
split_at level low high = min (low + size_of level) high

-- by latitude, and by longitude
abbrev pub lat_split : ℕ → Rectangle → Lat
lat_split level r = lat (split_at level r.south.0 r.north.0)

abbrev pub lon_split : ℕ → Rectangle → Lon
lon_split level r = lon (split_at level r.west.0 r.east.0)

-- What whole cells leave before cells start afresh
abbrev pub cut_of : ℕ → ℕ
cut_of level = afresh level % size_of level

-- The least width of a level's cells, 0 for what is no level: the nominal size, or what whole cells leave
unfoldable pub narrowest : ℕ → ℕ
narrowest level = cond (eqb (size_of level) 0) 0 (cond (eqb (cut_of level) 0) (size_of level) (cut_of level))
