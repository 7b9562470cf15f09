-- The two halves of a code (document 02, request 3, and the forms of document 01): what an account keeps of one. Assumes nothing.
use Rattle.std.specs.Prelude.{ℕ, ◌+◌, ◌*◌, ◌/◌, ◌%◌, ◌^◌, Bool, cond, ◌&&◌, List, ◌++◌, eqb, ltb, take, drop, Option, Some, None}
use Rattle.letters.specs.Letters.{letters, spelled_in, number_in}
use Rattle.code.specs.Code.{reading, reading_numbers}
use Rattle.halves.specs.declared.Halves.{Halves}

-- A code by its two halves
abbrev pub halves_by : ℕ → ℕ → Halves
halves_by high low = record { high = high; low = low }

-- A half is ten letters as a number in base 32, high first: the halves of a text
abbrev pub halves_in : List ℕ → Halves
halves_in text = halves_by (number_in letters (take 10 text)) (number_in letters (drop 10 text))

-- and the twenty letters of halves
abbrev pub spelled_halves : Halves → List ℕ
spelled_halves halves = spelled_in letters 10 halves.high ++ spelled_in letters 10 halves.low

-- Whether reading accepts a text
abbrev pub readable : List ℕ → Bool
readable text = eqb (reading text).said.number 0

-- The same of the two numbers of a text
abbrev pub accepted : ℕ → ℕ → Bool
accepted location rest = eqb (reading_numbers location rest).said.number 0

-- Whether halves are those of a code that reading accepts: each is a number of ten letters, and their letters are read
unfoldable pub is_code : Halves → Bool
is_code halves = ltb halves.high (32 ^ 10) && (ltb halves.low (32 ^ 10) && readable (spelled_halves halves))

-- The halves of two numbers of a text: the location's last letter goes to the low half
abbrev pub cut_of : ℕ → ℕ → Halves
cut_of location rest = halves_by (location / 32) (location % 32 * 32 ^ 9 + rest % 32 ^ 9)

-- The code of two numbers of a text
abbrev pub code_of : ℕ → ℕ → Option Halves
code_of location rest = cond (accepted location rest) (Some (cut_of location rest)) None

-- Codes are compared by what was read
abbrev pub same_code : Halves → Halves → Bool
same_code a b = eqb a.high b.high && eqb a.low b.low

-- What a text is to an account: a code by its halves, or one that reading refuses
unfoldable pub code_in : List ℕ → Option Halves
code_in text = cond (readable text) (Some (halves_in text)) None
