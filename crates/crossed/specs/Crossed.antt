-- Crossed boundaries (document 02, request 1): which edge follows which, the first pair of edges that meets, and when a boundary is
-- crossed. Assumes nothing.
use Rattle.std.specs.Prelude.{ℕ, Option, Some, None, Bool, true, false, cond, List, [], ◌∷◌, eqb, get_or}
use Rattle.ground.specs.declared.Point.{Point}
use Rattle.edge.specs.Edge.{Edge}
use Rattle.boundary.specs.Boundary.{edges_of, places_of}
use Rattle.pair.specs.Pair.{share_point, share_more}

-- An edge of a boundary by the places of the caller's list: of the corner where it starts, and of the one where the edge that follows it
-- starts
pub record Placed : Type 0 where
  pub line : Edge
  pub place : ℕ
  pub next : ℕ

-- Edges with the places where they start: each is followed by the one after it, the last by the first
abbrev pub placed : ℕ → List ℕ → List Edge → List Placed
placed first [] es = []
placed first (i ∷ is) [] = []
placed first (i ∷ is) (e ∷ es) = record { line = e; place = i; next = get_or is 0 first } ∷ placed first is es

-- The edges of a boundary, after edges of no length are dropped
unfoldable pub placed_of : List Point → List Placed
placed_of corners = placed (get_or (places_of corners) 0 0) (places_of corners) (edges_of corners)

-- The first of two edges follows the second
abbrev pub follows : Placed → Placed → Bool
follows f e = eqb f.place e.next

-- Two edges share a point other than the corner at which one follows the other
unfoldable pub meet : Placed → Placed → Bool
meet e f =
    cond (follows f e) (share_more e.line f.line) (cond (follows e f) (share_more f.line e.line) (share_point e.line f.line))

-- A first answer, or else another
abbrev pub or_else : Option (ℕ × ℕ) → Option (ℕ × ℕ) → Option (ℕ × ℕ)
or_else (Some pair) other = Some pair
or_else None other = other

-- The first of some edges that meets one before them
abbrev pub first_later : Placed → List Placed → Option (ℕ × ℕ)
first_later e [] = None
first_later e (f ∷ fs) = cond (meet e f) (Some (e.place, f.place)) (first_later e fs)

-- The first pair of edges that meets, by first edge, then second
abbrev pub first_pair : List Placed → Option (ℕ × ℕ)
first_pair [] = None
first_pair (e ∷ es) = or_else (first_later e es) (first_pair es)

-- The pair at which the test of a boundary stops
unfoldable pub pair_of : List Point → Option (ℕ × ℕ)
pair_of corners = first_pair (placed_of corners)

-- A boundary is crossed when two of its edges share such a point
abbrev pub is_pair : Option (ℕ × ℕ) → Bool
is_pair (Some pair) = true
is_pair None = false

abbrev pub crossed : List Point → Bool
crossed corners = is_pair (pair_of corners)

-- The refusal names the corner where the pair's first edge starts
abbrev pub start_of : Option (ℕ × ℕ) → ℕ
start_of (Some pair) = pair.0
start_of None = 0
