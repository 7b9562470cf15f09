-- A half and the edges that are kept for it in a lent room: what has to be so of it, and what the test for passing over tells. Assumes
-- nothing.
use Rattle.std.specs.Prelude.{ℕ, ◌-◌, ◌*◌, ◌≤◌, ◌<◌, min, max, ◌≡◌, Bool, true, false, cond, not, ◌&&◌, ◌||◌, List, [], ◌∷◌, map, ltb, length, Option, Some, None}
use Rattle.facts.specs.Lists.{count_up}
use Rattle.ground.specs.declared.Rectangle.{Rectangle}
use Rattle.ground.specs.declared.Cell.{Cell}
use Rattle.ground.specs.Rectangles.{Within, Lies, Wide, centre_of}
use Rattle.ground.specs.Cells.{sides_of, IsCell}
use Rattle.edge.specs.Edge.{Edge, beyond, misses}
use Rattle.boundary.specs.Boundary.{point_inside, unmet, ground_inside, inside}
use Rattle.boundary.specs.Closed.{Closed}
use Rattle.boundary.specs.Keeps.{Keeps}
use Rattle.boundary.specs.Listed.{edge_in}
use Rattle.quick.specs.declared.half.Half.{Half}
use Rattle.quick.specs.declared.passing.Tested.{Tested}
use Rattle.quick.specs.declared.passing.Tested.TheVariants.{PassedOver, Inside, Met}

-- The edges that stand in a room, from one place to before another
abbrev pub kept_in : List ℕ → ℕ → ℕ → List Edge
kept_in room from to = map (edge_in room) (count_up (to - from) from)

-- A later room with the same edges before a place
abbrev pub Same : ℕ → List ℕ → List ℕ → Type 0
Same to room later = (j : ℕ) → j < to → edge_in later j ≡ edge_in room j

-- Of some edges those that meet a rectangle
abbrev pub meeting : Rectangle → List Edge → List Edge
meeting r [] = []
meeting r (e ∷ es) = cond (misses e r) (meeting r es) (e ∷ meeting r es)

-- The edges from one place to before another miss a rectangle
pub record MissedTo (room : List ℕ) (r : Rectangle) (from to : ℕ) : Type 0 where
  pub each : (j : ℕ) → from ≤ j → j < to → misses (edge_in room j) r ≡ true

-- The place of the first of the edges between two places that is not beyond a side of a rectangle, or one past them
pub record NearFirst (room : List ℕ) (r : Rectangle) (from to place : ℕ) : Type 0 where
  pub least : from ≤ place
  pub missed : MissedTo room r from place
  pub near : place < to → beyond (edge_in room place) r ≡ false

-- and of the first that meets it
pub record MetFirst (room : List ℕ) (r : Rectangle) (from to place : ℕ) : Type 0 where
  pub least : from ≤ place
  pub missed : MissedTo room r from place
  pub met : place < to → misses (edge_in room place) r ≡ false

-- that place alone; none where each of them misses it
abbrev pub FoundFirst : List ℕ → Rectangle → ℕ → ℕ → Option ℕ → Type 0
FoundFirst room r from to (Some place) = (place < to) × MetFirst room r from to place
FoundFirst room r from to None = MissedTo room r from to

-- Edges in a room that are kept for some ground
pub record KeptFor (es : List Edge) (room : List ℕ) (around : Rectangle) (from to : ℕ) : Type 0 where
  pub keeps : Keeps es around (kept_in room from to)
  pub first : from ≤ to
  pub last : 4 * to ≤ length room

-- What is known of a half is so: its edges are those kept for ground around it, in which the corner lies whose count is known, and those from
-- the first on are kept for the half itself
pub record Sound (es : List Edge) (room : List ℕ) (h : Half) : Type 0 where
  pub closed : Closed es
  pub wide : Wide h.ground
  pub around : Rectangle
  pub within : Within h.ground around
  pub lies : Lies around h.corner
  pub east : h.east ≡ around.east
  pub kept : KeptFor es room around h.from h.to
  pub asked : Keeps es h.ground (kept_in room h.first h.to)
  pub odd : h.odd ≡ point_inside h.corner es

-- A half with part of its ground and another first edge
abbrev pub narrowed : Half → (ground : Rectangle) → ℕ → Half
narrowed h ground first = record { ground = ground; corner = h.corner; odd = h.odd; east = h.east; from = h.from; first = first; to = h.to }

-- with part of its ground alone
abbrev pub part_of : Half → Rectangle → Half
part_of h part = narrowed h part h.first

-- and with another first edge alone
abbrev pub starting_at : Half → ℕ → Half
starting_at h first = narrowed h h.ground first

-- A part of a half's ground
pub record Part (h : Half) (part : Rectangle) : Type 0 where
  pub wide : Wide part
  pub within : Within part h.ground

-- A side between two others
pub record StrictlyBetween (low middle high : ℕ) : Type 0 where
  pub above : low < middle
  pub below : middle < high

-- The edges of a list stand in a room from its start, so many
pub record AllIn (es : List Edge) (room : List ℕ) (count : ℕ) : Type 0 where
  pub fits : 4 * count ≤ length room
  pub all : kept_in room 0 count ≡ es

-- How much of an extent lies between two sides
abbrev pub common : ℕ → ℕ → ℕ → ℕ → ℕ
common low high from to = min high to - max low from

-- Ground has less of the extents in it than a width, in one direction or the other
abbrev pub too_little : Rectangle → Rectangle → ℕ → Bool
too_little g r least =
    ltb (common g.south.0 g.north.0 r.south.0 r.north.0) least
    || ltb (common g.west.0 g.east.0 r.west.0 r.east.0) least

-- Ground that no edge meets and whose centre is not inside
unfoldable pub ground_outside : List Edge → Rectangle → Bool
ground_outside es g = unmet g es && not (point_inside (centre_of g) es)

-- Ground that holds no wanted cell: none of a level up to the finest that is wanted is inside and within it
abbrev pub HoldsNone : List Edge → ℕ → Rectangle → Type 0
HoldsNone es finest g = (d : Cell) → IsCell d → d.level ≤ finest → inside es d ≡ true → Within (sides_of d) g → ⊥

-- The test for passing over says yes
abbrev pub yes : Tested → Bool
yes PassedOver = true
yes Inside = false
yes (Met place) = false

-- Where it does not, it says whether the ground is inside, or where the first edge that meets it stands
abbrev pub Else : List Edge → List ℕ → Half → Tested → Type 0
Else es room h PassedOver = Unit {0}
Else es room h Inside = ground_inside es h.ground ≡ true
Else es room h (Met place) = (place < h.to) × MetFirst room h.ground h.first h.to place
