-- The boundary and the cell inside (document 01, "The cell inside"). Assumes nothing.
use Rattle.std.specs.Prelude.{ℕ, suc, ◌%◌, Bool, true, cond, ◌&&◌, List, [], ◌∷◌, eqb}
use Rattle.ground.specs.declared.Point.{Point}
use Rattle.ground.specs.declared.Rectangle.{Rectangle}
use Rattle.ground.specs.declared.Cell.{Cell}
use Rattle.ground.specs.Rectangles.{centre_of}
use Rattle.ground.specs.Cells.{sides_of}
use Rattle.edge.specs.Edge.{Edge, edge, no_length, misses, crosses_east}

-- From one corner through the others, the last joined to the first
abbrev pub joined : Point → Point → List Point → List Edge
joined first here [] = edge here first ∷ []
joined first here (next ∷ rest) = edge here next ∷ joined first next rest

-- Edges of no length are disregarded
abbrev pub with_length : List Edge → List Edge
with_length [] = []
with_length (e ∷ es) = cond (no_length e) (with_length es) (e ∷ with_length es)

-- The edges of a boundary
unfoldable pub edges_of : List Point → List Edge
edges_of [] = []
edges_of (c ∷ cs) = with_length (joined c c cs)

-- The places, from one on, where those of some edges start that have a length
abbrev pub places_from : ℕ → List Edge → List ℕ
places_from i [] = []
places_from i (e ∷ es) = cond (no_length e) (places_from (suc i) es) (i ∷ places_from (suc i) es)

-- The places of the corners where the edges of a boundary start
unfoldable pub places_of : List Point → List ℕ
places_of [] = []
places_of (c ∷ cs) = places_from 0 (joined c c cs)

-- Odd count: from a point, count the edges that cross its latitude strictly east of it
abbrev pub count_east : Point → List Edge → ℕ
count_east p [] = 0
count_east p (e ∷ es) = cond (crosses_east p e) (suc (count_east p es)) (count_east p es)

-- The point is inside when the count is odd
abbrev pub point_inside : Point → List Edge → Bool
point_inside p es = eqb (count_east p es % 2) 1

-- No edge meets a rectangle
abbrev pub unmet : Rectangle → List Edge → Bool
unmet r [] = true
unmet r (e ∷ es) = misses e r && unmet r es

-- Inside: no edge meets the ground and its centre is inside
unfoldable pub ground_inside : List Edge → Rectangle → Bool
ground_inside es r = unmet r es && point_inside (centre_of r) es

-- A cell is inside when its ground is
abbrev pub inside : List Edge → Cell → Bool
inside es c = ground_inside es (sides_of c)
