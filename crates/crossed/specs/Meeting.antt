-- The edges of a boundary by the places of the caller's numbers: which follows which, and which meet. Assumes nothing.
use Rattle.std.specs.Prelude.{ℕ, ◌+◌, Bool, not, ◌&&◌, List, get_or}
use Rattle.edge.specs.Edge.{no_length}
use Rattle.boundary.specs.Boundary.{places_from}
use Rattle.boundary.specs.Listed.{edge_from}
use Rattle.boundary.specs.ListedLaws.{edges_after}
use Rattle.crossed.specs.Crossed.{Placed, meet}

-- The first place, from one on, where an edge starts that has a length; another where there is none
unfoldable pub start_from : List ℕ → ℕ → ℕ → ℕ
start_from numbers i none = get_or (places_from i (edges_after numbers i)) 0 none

-- The place of the edge that follows the one from a place: the last is followed by the first
abbrev pub following : List ℕ → ℕ → ℕ
following numbers i = start_from numbers (i + 1) (start_from numbers 0 0)

-- The edge from a place, as one of the boundary's
abbrev pub placed_at : List ℕ → ℕ → Placed
placed_at numbers i = record { line = edge_from numbers i; place = i; next = following numbers i }

-- The edges from two places have a length and meet
unfoldable pub meeting : List ℕ → ℕ → ℕ → Bool
meeting numbers i j =
    not (no_length (edge_from numbers i)) && not (no_length (edge_from numbers j)) && meet (placed_at numbers i) (placed_at numbers j)
