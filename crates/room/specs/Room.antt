-- A text put into lent room at a position: as much of it as fits. Assumes nothing.
use Rattle.std.specs.Prelude.{ℕ, ◌+◌, ◌-◌, min, ◌≡◌, List, length}
use Rattle.std.proofs.Math.Seq.{paste}

-- how many elements of a text fit into a room from a position on
abbrev pub fitting : {A : Type 0} → List A → ℕ → List A → ℕ
fitting room at text = min (length text) (length room - at)

-- a room with as much of a text as fits from a position on
unfoldable pub put_at : {A : Type 0} → List A → ℕ → List A → List A
put_at room at text = paste room at text (fitting room at text)

-- what putting a text into a room at a position leaves: the position after the text, and the room
pub record Put (room : List ℕ) (at : ℕ) (text : List ℕ) (end : ℕ) (later : List ℕ) : Type 0 where
  pub ends : end ≡ at + fitting room at text
  pub holds : later ≡ put_at room at text
