-- Edges that are listed in a lent room, four numbers an edge: latitude and longitude of its start, then of its end. Assumes nothing.
use Rattle.std.specs.Prelude.{ℕ, ◌+◌, ◌*◌, ◌/◌, Bool, cond, ◌&&◌, List, [], ◌∷◌, ◌++◌, leb, ltb, eqb, length, drop}
use Rattle.std.proofs.lemmas.List.Edits.{sets}
use Rattle.ground.specs.Levels.{lat, lon}
use Rattle.ground.specs.Rectangles.{at}
use Rattle.corners.specs.Corners.{corners_of, corner_at}
use Rattle.edge.specs.Edge.{Edge, edge}
use Rattle.boundary.specs.Boundary.{edges_of, places_of}

-- The edges that stand in a room; up to three numbers at its end make no edge
unfoldable pub edges_in : List ℕ → List Edge
edges_in [] = []
edges_in (a ∷ []) = []
edges_in (a ∷ b ∷ []) = []
edges_in (a ∷ b ∷ c ∷ []) = []
edges_in (a ∷ b ∷ c ∷ d ∷ rest) = edge (at (lat a) (lon b)) (at (lat c) (lon d)) ∷ edges_in rest

-- The edge at a place of a room
abbrev pub edge_in : List ℕ → ℕ → Edge
edge_in room i = edge (corner_at room (2 * i)) (corner_at room (2 * i + 1))

-- Edges as they stand in a room
abbrev pub numbers_of : List Edge → List ℕ
numbers_of [] = []
numbers_of (e ∷ es) = e.start.lat.0 ∷ e.start.lon.0 ∷ e.end.lat.0 ∷ e.end.lon.0 ∷ numbers_of es

-- A room with an edge put at a place; as it was where it has no such place
abbrev pub with_edge : List ℕ → ℕ → Edge → List ℕ
with_edge room i e = cond (ltb i (length room / 4)) (sets room (4 * i) (numbers_of (e ∷ []))) room

-- The place after a place of so many: after the last comes the first
abbrev pub place_after : ℕ → ℕ → ℕ
place_after count i = cond (eqb (i + 1) count) 0 (i + 1)

-- The edge from the corner at a place of the caller's numbers
abbrev pub edge_from : List ℕ → ℕ → Edge
edge_from numbers i = edge (corner_at numbers i) (corner_at numbers (place_after (length numbers / 2) i))

-- The edges of the boundary of the caller's numbers
abbrev pub boundary_of : List ℕ → List Edge
boundary_of numbers = edges_of (corners_of numbers)

-- Two rooms have place for an edge from each corner, and for the places where they start
abbrev pub have_room : List ℕ → List ℕ → List ℕ → Bool
have_room numbers edges places = leb (length numbers / 2) (length edges / 4) && leb (length numbers / 2) (length places)

-- Listing gives the number of edges, the edges at the start of the one room, and the places where they start at the start of the other;
-- nothing where the rooms are too short
abbrev pub listed_count : List ℕ → List ℕ → List ℕ → ℕ
listed_count numbers edges places = cond (have_room numbers edges places) (length (boundary_of numbers)) 0

abbrev pub listed_edges : List ℕ → List ℕ → List ℕ → List ℕ
listed_edges numbers edges places =
    cond (have_room numbers edges places) (numbers_of (boundary_of numbers) ++ drop (4 * length (boundary_of numbers)) edges) edges

abbrev pub listed_places : List ℕ → List ℕ → List ℕ → List ℕ
listed_places numbers edges places =
    cond (have_room numbers edges places) (places_of (corners_of numbers) ++ drop (length (boundary_of numbers)) places) places
