-- The chosen cell (document 01, "The cell inside"), twice: by what document 01 says of it, and as a computation. Assumes nothing.
use Rattle.std.specs.Prelude.{ℕ, zero, suc, ◌+◌, ◌-◌, ◌/◌, ◌≤◌, ◌<◌, ◌≡◌, ◌⊎◌, true, false, cond, List, [], ◌∷◌, T, ltb, Option, Some, None}
use Rattle.facts.specs.Lists.{Each}
use Rattle.ground.specs.declared.Rectangle.{Rectangle}
use Rattle.ground.specs.declared.Cell.{Cell}
use Rattle.ground.specs.Levels.{lat, lon, lat_end, lon_end, levels, smallest_size}
use Rattle.ground.specs.Rectangles.{Holds, Ordered}
use Rattle.ground.specs.Cells.{low_side, high_side, IsCell}
use Rattle.edge.specs.Edge.{Edge}
use Rattle.boundary.specs.Boundary.{inside}
use Rattle.boundary.specs.Closed.{Closed, Ends}

-- The least west side, then the least south side
abbrev pub Lefter : Cell → Cell → Type 0
Lefter c d = (c.west.0 < d.west.0) ⊎ ((c.west.0 ≡ d.west.0) × (c.south.0 < d.south.0))

-- The lowest level number, then the least west side, then the least south side
abbrev pub Before : Cell → Cell → Type 0
Before c d = (c.level < d.level) ⊎ ((c.level ≡ d.level) × Lefter c d)

-- The chosen cell: of the cells of levels 9 to 27 that are inside, the one that none is before
pub record Chosen (es : List Edge) (c : Cell) : Type 0 where
  pub cell : IsCell c
  pub within : T (inside es c)
  pub first : (d : Cell) → IsCell d → T (inside es d) → Before d c → ⊥

-- The low sides of the cells of a level, from one on, below an end; n of them at most
abbrev pub sides_from : ℕ → ℕ → ℕ → ℕ → List ℕ
sides_from zero level a end = []
sides_from (suc n) level a end = elim (ltb a end) [ true ↦ a ∷ sides_from n level (high_side level a) end | false ↦ [] ]

-- The low sides of the cells of a level that lie over an extent; a cell is at least as wide as the smallest size, so there are no more than these
abbrev pub sides_over : ℕ → ℕ → ℕ → List ℕ
sides_over level from to = sides_from ((to - from) / smallest_size + 2) level (low_side level from) to

-- A first answer, or else another
abbrev pub or_else : Option Cell → (Unit {0} → Option Cell) → Option Cell
or_else (Some c) other = Some c
or_else None other = other tt

-- The first cell that trying numbers in turn gives
abbrev pub first_among : (ℕ → Option Cell) → List ℕ → Option Cell
first_among try [] = None
first_among try (x ∷ xs) = or_else (try x) (λ _. first_among try xs)

-- A cell if it is inside
abbrev pub tried : List Edge → Cell → Option Cell
tried es c = cond (inside es c) (Some c) None

-- The west sides of a level that are tried over an extent, and the south sides
abbrev pub wests : Rectangle → ℕ → List ℕ
wests r level = sides_over level r.west.0 r.east.0

abbrev pub souths : Rectangle → ℕ → List ℕ
souths r level = sides_over level r.south.0 r.north.0

-- A cell by its level, its west and its south side, if it is inside
abbrev pub try_south : List Edge → ℕ → ℕ → ℕ → Option Cell
try_south es level west south = tried es (record { level = level; west = lon west; south = lat south })

-- South sides in turn
abbrev pub try_west : Rectangle → List Edge → ℕ → ℕ → Option Cell
try_west r es level west = first_among (try_south es level west) (souths r level)

-- West sides in turn
abbrev pub try_level : Rectangle → List Edge → ℕ → Option Cell
try_level r es level = first_among (try_west r es level) (wests r level)

-- The chosen cell as a computation, over the extents and the edges of a boundary: levels 9 to 27 in turn
unfoldable pub choose : Rectangle → List Edge → Option Cell
choose r es = first_among (try_level r es) levels

-- What a search may take for granted of extents and edges: the edges close, both ends of each lie within the extents, and these within the
-- range
pub record Over (r : Rectangle) (es : List Edge) : Type 0 where
  pub closed : Closed es
  pub held : Each (Ends (Holds r)) es
  pub order : Ordered r
  pub east_end : r.east.0 ≤ lon_end
  pub north_end : r.north.0 ≤ lat_end
