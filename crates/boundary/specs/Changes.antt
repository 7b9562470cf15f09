-- The ground's five changes (the mission's demand 3): starting at another corner, turning the direction, repeating a corner beside itself,
-- setting a corner exactly on an edge, and undoing any of these. Assumes nothing.
use Rattle.std.specs.Prelude.{List, [], ◌∷◌, ◌++◌, reverse}
use Rattle.ground.specs.declared.Point.{Point}
use Rattle.edge.specs.Edge.{OnEdge}

-- A change of a list of corners
pub data Change : List Point → List Point → Type 0 where
  -- starting at another corner
  starting : (cs ds : List Point) → Change (cs ++ ds) (ds ++ cs)
  -- turning the direction
  turning : (cs : List Point) → Change cs (reverse cs)
  -- repeating a corner beside itself
  repeating : (cs : List Point) (a : Point) (ds : List Point) → Change (cs ++ (a ∷ ds)) (cs ++ (a ∷ a ∷ ds))
  -- setting a corner exactly on an edge
  setting : (cs : List Point) (a p b : Point) (ds : List Point) → OnEdge a p b → Change (cs ++ (a ∷ b ∷ ds)) (cs ++ (a ∷ p ∷ b ∷ ds))
  -- the closing edge too
  closing : (a : Point) (cs : List Point) (b p : Point) → OnEdge b p a → Change (a ∷ cs ++ (b ∷ [])) (a ∷ cs ++ (b ∷ p ∷ []))

-- One ground: any sequence of changes and of undoing changes
pub data SameGround : List Point → List Point → Type 0 where
  as_it_is : {cs : List Point} → SameGround cs cs
  changing : {cs ds es : List Point} → Change cs ds → SameGround ds es → SameGround cs es
  undoing : {cs ds es : List Point} → Change ds cs → SameGround ds es → SameGround cs es
