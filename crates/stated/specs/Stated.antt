-- The unit of a line as a caller gets it: its kind, its number, how many coordinates it has, and the coordinates in a room.
-- Assumes nothing.
use Rattle.std.specs.Prelude.{Option, Some, None, ℕ, cond, ◌&&◌, List, [], ◌∷◌, length, drop}
use Prim.Native.Char.{code}
use Rattle.lines.specs.Lines.{Form, unit, not_of_this_form, is_kind, is_number, form_of, cut}
use Rattle.numbers.specs.Numbers.{leading}
use Rattle.stated.specs.declared.Unit.{Unit}

-- a unit by its kind, its number and how many coordinates it has
abbrev pub unit_said : Form → Option Unit
unit_said (unit kind number coordinates) = Some (record { letter = kind; number = number; count = length coordinates })
unit_said not_of_this_form = None

-- the coordinates up to the first word that is no number, in a line that starts with a kind and a number
abbrev pub coordinates_of : List (List ℕ) → List ℕ
coordinates_of [] = []
coordinates_of (kind ∷ []) = []
coordinates_of (kind ∷ number ∷ words) = cond (is_kind kind && is_number number) (leading words) []

-- the same of a line
unfoldable pub coordinates_in : List ℕ → List ℕ
coordinates_in line = coordinates_of (cut (code " ") line)

-- the unit and the coordinates of a line that starts with a kind and a space
unfoldable pub unit_after : ℕ → List ℕ → Option Unit
unit_after kind line = unit_said (form_of ((kind ∷ []) ∷ cut (code " ") (drop 2 line)))

unfoldable pub coordinates_after : ℕ → List ℕ → List ℕ
coordinates_after kind line = coordinates_of ((kind ∷ []) ∷ cut (code " ") (drop 2 line))
