-- The number at a position of a line, and the numbers of a text, each after one space. Assumes nothing.
use Rattle.std.specs.Prelude.{Option, Some, None, ℕ, ◌+◌, cond, ◌&&◌, List, [], ◌∷◌, length, drop, leb, eqb}
use Prim.Native.Char.{code}
use Rattle.facts.specs.Lists.{every}
use Rattle.lines.specs.Lines.{cut, is_within, is_number, is_digit, value, value_after}

-- ---- a number at a position

-- the word that a text starts with: the bytes before the first space
unfoldable pub word : List ℕ → List ℕ
word [] = []
word (x ∷ text) = cond (eqb x (code " ")) [] (x ∷ word text)

-- the value of a number n with a word after it, where the word has digits alone and the value is at most `most`
unfoldable pub digits_after : ℕ → ℕ → List ℕ → Option ℕ
digits_after most n word = cond (every is_digit word && leb (value_after n word) most) (Some (value_after n word)) None

-- the value of a word that is a number of at most `digits` digits, and at most `most`
unfoldable pub word_of : ℕ → ℕ → List ℕ → Option ℕ
word_of digits most word = cond (is_within digits most word) (Some (value word)) None

-- a word's value, with the position after it
abbrev pub ending_at : ℕ → Option ℕ → Option (ℕ × ℕ)
ending_at end (Some n) = Some (n, end)
ending_at end None = None

-- the word at a position of a line, and the position after it
abbrev pub word_at : List ℕ → ℕ → List ℕ
word_at line at = word (drop at line)

abbrev pub word_end : List ℕ → ℕ → ℕ
word_end line at = at + length (word_at line at)

-- the number of at most `digits` digits, and at most `most`, that starts at a position of a line
unfoldable pub within_at : ℕ → ℕ → List ℕ → ℕ → Option (ℕ × ℕ)
within_at digits most line at = ending_at (word_end line at) (word_of digits most (word_at line at))

-- the message number there
abbrev pub long_at : List ℕ → ℕ → Option (ℕ × ℕ)
long_at line at = within_at 20 18446744073709551615 line at

-- the number of 32 bits that starts there
abbrev pub number_at : List ℕ → ℕ → Option (ℕ × ℕ)
number_at line at = within_at 10 4294967295 line at

-- ---- the numbers of a text, each after one space

-- the values of words up to the first that is no number
unfoldable pub leading : List (List ℕ) → List ℕ
leading [] = []
leading (word ∷ words) = cond (is_number word) (value word ∷ leading words) []

-- the same of the pieces of a text, of which the first stands before the first space and is empty
abbrev pub leading_of : List (List ℕ) → List ℕ
leading_of [] = []
leading_of ([] ∷ words) = leading words
leading_of ((b ∷ piece) ∷ words) = []

-- how many numbers the words are, where all are numbers
abbrev pub count_of : List (List ℕ) → Option ℕ
count_of [] = None
count_of ([] ∷ words) = cond (every is_number words) (Some (length words)) None
count_of ((b ∷ piece) ∷ words) = None

-- the numbers of a text up to the first word that is none
unfoldable pub leading_in : List ℕ → List ℕ
leading_in text = leading_of (cut (code " ") text)

-- how many numbers a text is
unfoldable pub count_in : List ℕ → Option ℕ
count_in text = count_of (cut (code " ") text)
