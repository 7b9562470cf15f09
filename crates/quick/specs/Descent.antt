-- What a descent is asked, and what the searches around it ask of their callers. Assumes nothing.
use Rattle.std.specs.Prelude.{ℕ, ◌+◌, ◌-◌, ◌/◌, ◌%◌, ◌≤◌, ◌<◌, ◌≡◌, Bool, true, ◌||◌, List, ltb, Option}
use Rattle.ground.specs.declared.Lon.{Lon}
use Rattle.ground.specs.declared.Rectangle.{Rectangle}
use Rattle.ground.specs.declared.Cell.{Cell}
use Rattle.angles.specs.Angles.{distance}
use Rattle.ground.specs.Levels.{lat, lon, lat_end, lon_end, coarsest_level, finest_level}
use Rattle.ground.specs.Cells.{IsCell}
use Rattle.ground.specs.Halves.{Span, Ground, narrowest}
use Rattle.edge.specs.Edge.{Edge}
use Rattle.boundary.specs.Boundary.{inside}
use Rattle.chosen.specs.Chosen.{Over}
use Rattle.quick.specs.declared.half.Half.{Half}
use Rattle.quick.specs.declared.half.Sought.{Sought}
use Rattle.quick.specs.Half.{Sound}
use Rattle.quick.specs.First.{Past}

-- No cell of a level before one is inside
pub record NoneCoarser (es : List Edge) (level : ℕ) : Type 0 where
  pub coarsest : coarsest_level ≤ level
  pub finest : level ≤ finest_level + 1
  pub none : (d : Cell) → IsCell d → inside es d ≡ true → d.level < level → ⊥

-- What is sought is so: no cell of a coarser level is inside, and none of the finest is narrower than told
pub record Seeks (es : List Edge) (s : Sought) : Type 0 where
  pub over : Over s.extents es
  pub none : NoneCoarser es s.coarsest
  pub most : s.finest ≤ finest_level
  pub least : s.least ≡ narrowest s.finest

-- A descent with so many halvings left, latitude first: the half's ground is a cell's of the level that they lead down from, and past what is
-- found
pub record ByLat (es : List Edge) (room : List ℕ) (half : Half) (s : Sought) (left : ℕ) (found : Option Cell) : Type 0 where
  pub sound : Sound es room half
  pub seeks : Seeks es s
  pub even : left % 2 ≡ 0
  pub coarsest : coarsest_level + left / 2 ≤ s.finest
  pub ground : Ground (s.finest - left / 2) (s.finest - left / 2) half.ground
  pub past : Past found half.ground

-- longitude first: latitude has been halved already
pub record ByLon (es : List Edge) (room : List ℕ) (half : Half) (s : Sought) (left : ℕ) (found : Option Cell) : Type 0 where
  pub sound : Sound es room half
  pub seeks : Seeks es s
  pub odd : left % 2 ≡ 1
  pub coarsest : coarsest_level + left / 2 + 1 ≤ s.finest
  pub ground : Ground (s.finest - left / 2) (s.finest - left / 2 - 1) half.ground
  pub past : Past found half.ground

-- A finest level, and one to start from that is not finer
pub record Levels (finest top : ℕ) : Type 0 where
  pub coarsest : coarsest_level ≤ top
  pub below : top ≤ finest
  pub most : finest ≤ finest_level

-- The west and the east side of a level's cells, within the range
pub record Column (level : ℕ) (west east : Lon) : Type 0 where
  pub lon : Span level west.0 east.0
  pub east_end : east.0 ≤ lon_end

-- The ground between two longitudes, from one end of the range to the other
abbrev pub column : Lon → Lon → Rectangle
column west east = record { west = west; east = east; south = lat 0; north = lat lat_end }

-- All ground
abbrev pub everywhere : Rectangle
everywhere = column (lon 0) (lon lon_end)

-- The narrowest cells of a level are wider than an extent
abbrev pub too_wide : Rectangle → ℕ → Bool
too_wide r level =
    ltb (distance r.west.0 r.east.0) (narrowest level) || ltb (distance r.south.0 r.north.0) (narrowest level)

-- and so for each level before one
abbrev pub TooWideBefore : Rectangle → ℕ → Type 0
TooWideBefore r level = (n : ℕ) → n < level → coarsest_level ≤ n → too_wide r n ≡ true
