-- Boundaries that are crossed and such as are not, computed from the definition (document 02, request 1). Assumes nothing.
use Rattle.std.specs.Prelude.{ℕ, Option, Some, None, ◌≡◌, refl, List, [], ◌∷◌}
use Rattle.facts.specs.Lists.{Each}
use Rattle.ground.specs.declared.Point.{Point}
use Rattle.ground.specs.Levels.{lat, lon}
use Rattle.side.specs.Side.{left, left_or_on}
use Rattle.boundary.specs.Boundary.{edges_of, places_of}
use Rattle.pair.specs.Pair.{overlapping, aside_of, share_point, share_more}
use Rattle.crossed.specs.Crossed.{placed_of, meet, pair_of}

-- A corner by its latitude and its longitude
abbrev c : ℕ → ℕ → Point
c a o = record { lat = lat a; lon = lon o }

-- A list of corners, and the first pair of its edges that meets
pub record Example : Type 0 where
  pub corners : List Point
  pub answer : Option (ℕ × ℕ)

abbrev has : List Point → Option (ℕ × ℕ) → Example
has cs m = record { corners = cs; answer = m }

abbrev pub examples : List Example
examples =
    -- A, B, A folds back, and so it does with a corner repeated
    has (c 0 0 ∷ c 0 4 ∷ c 0 0 ∷ []) (Some (0, 1))
    ∷ has (c 0 0 ∷ c 0 0 ∷ c 0 4 ∷ c 0 0 ∷ []) (Some (1, 2))
    -- one point has no edges
    ∷ has (c 0 0 ∷ c 0 0 ∷ c 0 0 ∷ []) None
    -- of three edges each follows another
    ∷ has (c 0 0 ∷ c 0 4 ∷ c 4 0 ∷ []) None
    -- three corners on one line fold back at both ends
    ∷ has (c 0 0 ∷ c 0 4 ∷ c 0 8 ∷ []) (Some (0, 2))
    -- a bow-tie
    ∷ has (c 0 0 ∷ c 2 2 ∷ c 2 0 ∷ c 0 2 ∷ []) (Some (0, 2))
    -- a corner that touches an edge, and one that misses it
    ∷ has (c 0 0 ∷ c 0 8 ∷ c 8 8 ∷ c 0 4 ∷ []) (Some (0, 2))
    ∷ has (c 0 0 ∷ c 0 8 ∷ c 8 8 ∷ c 1 4 ∷ []) None
    -- a corner on a straight wall
    ∷ has (c 0 0 ∷ c 0 4 ∷ c 0 8 ∷ c 8 8 ∷ []) None
    -- the closing edge goes back over the first
    ∷ has (c 0 0 ∷ c 0 4 ∷ c 4 4 ∷ c 4 6 ∷ c 0 6 ∷ []) (Some (0, 4))
    -- a ring pinched at a corner, with corners repeated beside the pinch
    ∷ has (c 0 0 ∷ c 2 2 ∷ c 2 2 ∷ c 4 0 ∷ c 4 4 ∷ c 2 2 ∷ c 0 4 ∷ []) (Some (0, 4))
    ∷ []

-- as the definition computes them
pub computed : Each (λ (x : Example). pair_of x.corners ≡ x.answer) examples
unfolding pair_of placed_of places_of edges_of meet share_point share_more overlapping aside_of left left_or_on
computed = (refl, (refl, (refl, (refl, (refl, (refl, (refl, (refl, (refl, (refl, (refl, tt)))))))))))
