-- The pair at which the test of a boundary stops names corners of the list: both its places are below their number. Assumes nothing.
use Rattle.std.specs.Prelude.{ℕ, Option, Some, None, suc, ◌+◌, ◌≤◌, ◌<◌, ◌≡◌, refl, Bool, true, false, cond, List, [], ◌∷◌, length}
use Rattle.std.proofs.Common.{arith, ap, subst}
use Rattle.ground.specs.declared.Point.{Point}
use Rattle.edge.specs.Edge.{Edge, no_length}
use Rattle.boundary.specs.Boundary.{joined, edges_of, places_from, places_of}
use Rattle.crossed.specs.Crossed.{Placed, placed, placed_of, meet, or_else, first_later, first_pair, pair_of}

-- Edges that start at places below a number
abbrev Below : ℕ → List Placed → Type 0
Below n [] = Unit {0}
Below n (e ∷ es) = (e.place < n) × Below n es

-- An answer whose places, if it has any, are below it
abbrev Within : ℕ → Option (ℕ × ℕ) → Type 0
Within n (Some pair) = (pair.0 < n) × (pair.1 < n)
Within n None = Unit {0}

-- There are as many edges as corners
joined_length : (first here : Point) (cs : List Point) → length (joined first here cs) ≡ suc (length cs)
joined_length first here [] = refl
joined_length first here (c ∷ cs) = ap suc (joined_length first c cs)

-- Edges of which those with a length start from a place on start below the place after the last
places_below : (n i first : ℕ) (es fs : List Edge) → i + length es ≤ n → Below n (placed first (places_from i es) fs)
places_below n i first [] fs h = tt
places_below n i first (e ∷ es) fs h = at (no_length e) fs (λ gs. places_below n (suc i) first es gs (omega arith))
  where
    at : (b : Bool) (fs : List Edge) → ((gs : List Edge) → Below n (placed first (places_from (suc i) es) gs))
        → Below n (placed first (cond b (places_from (suc i) es) (i ∷ places_from (suc i) es)) fs)
    at true fs later = later fs
    at false [] later = tt
    at false (f ∷ fs) later = (omega (arith, h), later fs)

module _ (n : ℕ) where
  -- What is found among such edges has such places
  later_within : (e : Placed) (fs : List Placed) → e.place < n → Below n fs → Within n (first_later e fs)
  later_within e [] h below = tt
  later_within e (f ∷ fs) h below = at (meet e f) (later_within e fs h below.1)
    where
      at : (b : Bool) → Within n (first_later e fs) → Within n (cond b (Some (e.place, f.place)) (first_later e fs))
      at true later = (h, below.0)
      at false later = later

  else_within : (m other : Option (ℕ × ℕ)) → Within n m → Within n other → Within n (or_else m other)
  else_within (Some pair) other h k = h
  else_within None other h k = k

  first_within : (es : List Placed) → Below n es → Within n (first_pair es)
  first_within [] below = tt
  first_within (e ∷ es) below =
      else_within (first_later e es) (first_pair es) (later_within e es below.0 below.1) (first_within es below.1)

-- The edges of a boundary start at corners of the list
placed_below : (corners : List Point) → Below (length corners) (placed_of corners)
unfolding placed_of places_of edges_of
placed_below [] = tt
placed_below (c ∷ cs) = places_below (suc (length cs)) 0 _ (joined c c cs) _ (omega (arith, joined_length c c cs))

-- so a pair that is found names two of them
pub pair_within : (corners : List Point) {i j : ℕ} → pair_of corners ≡ Some (i, j) → (i < length corners) × (j < length corners)
unfolding pair_of
pair_within corners e = subst (Within (length corners)) e (first_within (length corners) (placed_of corners) (placed_below corners))
