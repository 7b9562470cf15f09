-- Two edges of a boundary (document 02, request 1): when they share a point, and when two of which one follows the other share more than
-- their corner. Assumes nothing.
use Rattle.std.specs.Prelude.{ℕ, min, max, Bool, not, ◌&&◌, ◌||◌, leb, ltb}
use Rattle.ground.specs.declared.Point.{Point}
use Rattle.side.specs.Side.{left, left_or_on}
use Rattle.edge.specs.Edge.{Edge, edge, no_length}

-- Extents overlap in a direction, ends included
abbrev pub overlap : ℕ → ℕ → ℕ → ℕ → Bool
overlap a b c d = leb (min a b) (max c d) && leb (min c d) (max a b)

-- and in both directions
unfoldable pub overlapping : Edge → Edge → Bool
overlapping e f =
    overlap e.start.lat.0 e.end.lat.0 f.start.lat.0 f.end.lat.0
    && overlap e.start.lon.0 e.end.lon.0 f.start.lon.0 f.end.lon.0

-- Both ends of the second edge are strictly on one side of the first's line
unfoldable pub aside_of : Edge → Edge → Bool
aside_of e f =
    left e.start e.end f.start && left e.start e.end f.end
    || left e.end e.start f.start && left e.end e.start f.end

-- Two edges of which neither follows the other share a point when their extents overlap in both directions, ends included, and neither has
-- both ends strictly on one side of the other's line
unfoldable pub share_point : Edge → Edge → Bool
share_point e f = overlapping e f && not (aside_of e f) && not (aside_of f e)

-- A, B and C lie on one line
abbrev pub on_one_line : Point → Point → Point → Bool
on_one_line a b c = left_or_on a b c && left_or_on b a c

-- with A and C on the same side of B, by one direction or the other
abbrev pub both_beside : ℕ → ℕ → ℕ → Bool
both_beside a b c = ltb a b && ltb c b || ltb b a && ltb b c

abbrev pub on_same_side : Point → Point → Point → Bool
on_same_side a b c = both_beside a.lat.0 b.lat.0 c.lat.0 || both_beside a.lon.0 b.lon.0 c.lon.0

-- Edges AB and BC share more than B when A, B and C lie on one line with A and C on the same side of B
unfoldable pub share_more : Edge → Edge → Bool
share_more e f =
    no_length (edge e.end f.start) && on_one_line e.start e.end f.end && on_same_side e.start e.end f.end
