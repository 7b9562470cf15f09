-- The twenty letters as two numbers (document 01, "The twenty characters"): the location, of 11 letters and 55 bits, and the rest, which
-- is scale, spans and unit number, of 9 letters and 45 bits. Assumes nothing.
use Rattle.std.specs.Prelude.{ℕ, cond, not, List, [], ◌∷◌, ◌++◌, eqb, ltb, length, take, drop, Result, Ok, Err}
use Rattle.replies.specs.Replies.{Said, refused, accepted, Check, check, check_at, run}
use Rattle.letters.specs.Alphabet.{first_other}
use Rattle.letters.specs.Letters.{letters, spelled_in, number_in}
use Rattle.spelling.specs.declared.Misspelled.{Misspelled}
use Rattle.spelling.specs.declared.Misspelled.TheVariants.{Length, Letter}

-- Two numbers spelled, high letter first
unfoldable pub spelled_both : ℕ → ℕ → List ℕ
spelled_both location rest = spelled_in letters 11 location ++ spelled_in letters 9 rest

-- Bytes 0 to 19 of a room and no others; nothing is written into a shorter one
unfoldable pub spelled_into : List ℕ → ℕ → ℕ → List ℕ
spelled_into room location rest = cond (ltb (length room) 20) room (spelled_both location rest ++ drop 20 room)

-- The two numbers that a text spells
abbrev pub location_in : List ℕ → ℕ
location_in text = number_in letters (take 11 text)

abbrev pub rest_in : List ℕ → ℕ
rest_in text = number_in letters (drop 11 text)

-- Reading, 11 and 12: length not 20; a byte that is no letter, with the place of the first such byte
unfoldable pub text_checks : List ℕ → List Check
text_checks text =
    check 11 (not (eqb (length text) 20))
    ∷ check_at 12 (ltb (first_other letters text) (length text)) (first_other letters text)
    ∷ []

-- What a text spells: number and place, and the two numbers
pub record Numbers : Type 0 where
  pub said : Said
  pub location : ℕ
  pub rest : ℕ

abbrev pub two_numbers : ℕ → ℕ → Numbers
two_numbers location rest = record { said = accepted; location = location; rest = rest }

-- A refusal has both numbers 0
abbrev pub no_numbers : Said → Numbers
no_numbers said = record { said = said; location = 0; rest = 0 }

-- From a text to its two numbers, or what is refused
unfoldable pub numbers_in : List ℕ → Numbers
numbers_in text =
    cond (eqb (run (text_checks text)).number 0) (two_numbers (location_in text) (rest_in text)) (no_numbers (run (text_checks text)))

-- The number, the place and the two numbers of each answer
abbrev pub spells : Result (ℕ × ℕ) Misspelled → Numbers
spells (Ok (location, rest)) = two_numbers location rest
spells (Err Length) = no_numbers (refused 11 0)
spells (Err (Letter byte)) = no_numbers (refused 12 byte)
