-- A line that starts with a text. Assumes nothing.
use Rattle.std.specs.Prelude.{ℕ, Bool, true, false, ◌&&◌, List, [], ◌∷◌, eqb}

-- whether a line starts with the bytes of a text
unfoldable pub starts_with : List ℕ → List ℕ → Bool
starts_with line [] = true
starts_with [] (b ∷ text) = false
starts_with (a ∷ line) (b ∷ text) = eqb a b && starts_with line text
