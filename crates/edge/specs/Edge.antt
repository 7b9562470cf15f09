-- An edge beside a rectangle and beside a point (document 01, "The cell inside"). Assumes nothing.
use Rattle.std.specs.Prelude.{ℕ, ◌≤◌, min, max, ◌≡◌, Bool, not, ◌&&◌, ◌||◌, eqb, leb, ltb}
use Rattle.facts.specs.Tests.{differ}
use Rattle.ground.specs.declared.Lon.{Lon}
use Rattle.ground.specs.declared.Point.{Point}
use Rattle.ground.specs.declared.Rectangle.{Rectangle}
use Rattle.ground.specs.Rectangles.{at}
use Rattle.side.specs.Side.{left_sum, right_sum, left, left_or_on}

-- An edge joins two corners
pub record Edge : Type 0 where
  pub start : Point
  pub end : Point

abbrev pub edge : Point → Point → Edge
edge a b = record { start = a; end = b }

-- Edges of no length
abbrev pub no_length : Edge → Bool
no_length e = eqb e.start.lat.0 e.end.lat.0 && eqb e.start.lon.0 e.end.lon.0

-- The four corners of a rectangle lie all on one side of the line from a to b
abbrev pub all_left : Point → Point → Rectangle → Bool
all_left a b r =
    left_or_on a b (at r.south r.west) && left_or_on a b (at r.south r.east)
    && left_or_on a b (at r.north r.west) && left_or_on a b (at r.north r.east)

-- Both ends are at or west of the west side, or likewise for east, south and north
abbrev pub beyond : Edge → Rectangle → Bool
beyond e r =
    leb e.start.lon.0 r.west.0 && leb e.end.lon.0 r.west.0
    || leb r.east.0 e.start.lon.0 && leb r.east.0 e.end.lon.0
    || leb e.start.lat.0 r.south.0 && leb e.end.lat.0 r.south.0
    || leb r.north.0 e.start.lat.0 && leb r.north.0 e.end.lat.0

-- Meeting: an edge misses a rectangle's open inside when it is beyond a side, or the four corners lie all on one side of its line
unfoldable pub misses : Edge → Rectangle → Bool
misses e r = beyond e r || all_left e.start e.end r || all_left e.end e.start r

-- Otherwise it meets it
abbrev pub meets : Edge → Rectangle → Bool
meets e r = not (misses e r)

-- A number strictly between two others, and a point strictly within a rectangle
abbrev pub strictly_between : ℕ → ℕ → ℕ → Bool
strictly_between low n high = ltb low n && ltb n high

abbrev pub strictly_within : Rectangle → Point → Bool
strictly_within r p = strictly_between r.west.0 p.lon.0 r.east.0 && strictly_between r.south.0 p.lat.0 r.north.0

-- An edge that has a length, with an end strictly within a rectangle
abbrev pub end_within : Edge → Rectangle → Bool
end_within e r = (strictly_within r e.start || strictly_within r e.end) && not (no_length e)

-- Odd count: an edge with exactly one end at or below a point's latitude, the first or the second, that crosses it strictly east of it
unfoldable pub crosses_east : Point → Edge → Bool
crosses_east p e =
    leb e.start.lat.0 p.lat.0 && not (leb e.end.lat.0 p.lat.0) && left e.start e.end p
    || leb e.end.lat.0 p.lat.0 && not (leb e.start.lat.0 p.lat.0) && left e.end e.start p

-- A corner is at or below the latitude of a point
abbrev pub low : Point → Point → Bool
low v p = leb v.lat.0 p.lat.0

-- A corner at or beyond an east side whose latitude is at or below one of two points alone
abbrev pub between : Lon → Point → Point → Point → Bool
between side p q v = leb side.0 v.lon.0 && differ (low v p) (low v q)

-- An edge turns the count from odd to even, or back, between two points west of an east side
unfoldable pub turns : Lon → Point → Point → Edge → Bool
turns east p q e = differ (differ (crosses_east p e) (crosses_east q e)) (differ (between east p q e.start) (between east p q e.end))

-- A number between two others, ends included
abbrev pub Between : ℕ → ℕ → ℕ → Type 0
Between a p b = (min a b ≤ p) × (p ≤ max a b)

-- A point exactly on the edge from a to b, ends included: on its line, and between its ends in each direction
pub record OnEdge (a p b : Point) : Type 0 where
  pub line : left_sum a b p ≡ right_sum a b p
  pub lat : Between a.lat.0 p.lat.0 b.lat.0
  pub lon : Between a.lon.0 p.lon.0 b.lon.0
