-- Replies (document 01, "Replies"): what an answer says, and a table of checks that run in order. Assumes nothing.
use Rattle.std.specs.Prelude.{ℕ, Bool, cond, List, [], ◌∷◌, ◌++◌, eqb, drop}

-- What an answer says: a number, and a place counted from 0
pub record Said : Type 0 where
  pub number : ℕ
  pub place : ℕ

-- A refusal gives number and place
abbrev pub refused : ℕ → ℕ → Said
refused n p = record { number = n; place = p }

-- Acceptance has number 0 and place 0
abbrev pub accepted : Said
accepted = record { number = 0; place = 0 }

-- A row of a table: a number, whether its check refuses, and the place
pub record Check : Type 0 where
  pub number : ℕ
  pub refuses : Bool
  pub place : ℕ

-- A row that names a place
abbrev pub check_at : ℕ → Bool → ℕ → Check
check_at n b p = record { number = n; refuses = b; place = p }

-- Where none is named the place is 0
abbrev pub check : ℕ → Bool → Check
check n b = check_at n b 0

-- Checks run in the order of the table: what the first that refuses says, else acceptance
abbrev pub run : List Check → Said
run [] = accepted
run (c ∷ cs) = cond c.refuses (refused c.number c.place) (run cs)

-- What coding or writing leaves: what it says, and the room
pub record Outcome : Type 0 where
  pub said : Said
  pub room : List ℕ

-- Acceptance writes bytes 0 to 19 of the output and no others; a refusal writes nothing
abbrev pub outcome : Said → List ℕ → List ℕ → Outcome
outcome said code room = record { said = said; room = cond (eqb said.number 0) (code ++ drop 20 room) room }
