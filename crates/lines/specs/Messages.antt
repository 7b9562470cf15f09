-- Lines of messages, as `A 17 CODE`: a letter, a space, the message number, a space and the rest of the line; and the line `T`, which
-- asks for the total. Assumes nothing.
use Rattle.std.specs.Prelude.{ℕ, Bool, cond, ◌||◌, List, [], ◌∷◌, eqb}
use Prim.Native.Char.{code}
use Rattle.facts.specs.Texts.{bytes, same_text}
use Rattle.lines.specs.Lines.{is_within, value}

-- the message number: decimal, no leading zero but in `0`, at most 18,446,744,073,709,551,615
abbrev pub is_long : List ℕ → Bool
is_long word = is_within 20 18446744073709551615 word

-- a text parted at its first space: the word before it and the rest after it; or a text without a space
pub data Parted : Type 0 where
  parted : (word rest : List ℕ) → Parted
  unparted : Parted

-- one byte more in front
abbrev pub led : ℕ → Parted → Parted
led x (parted word rest) = parted (x ∷ word) rest
led x unparted = unparted

-- a text parted at its first space
unfoldable pub part : List ℕ → Parted
part [] = unparted
part (x ∷ text) = cond (eqb x (code " ")) (parted [] text) (led x (part text))

-- what stands in a line: a message by its letter, its number and its text, the question for the total, or a line not of this form
pub data Message : Type 0 where
  message : (letter number : ℕ) (text : List ℕ) → Message
  asks_total : Message
  not_of_this_form : Message

-- `A` or `C` (activate, cancel)
abbrev pub is_letter : ℕ → Bool
is_letter b = eqb b (code "A") || eqb b (code "C")

-- after the letter and a space: the message number, a space and the text
abbrev pub numbered : ℕ → Parted → Message
numbered letter (parted word text) = cond (is_long word) (message letter (value word) text) not_of_this_form
numbered letter unparted = not_of_this_form

-- a letter, a space, and what follows them
abbrev pub lettered : Parted → Message
lettered (parted [] rest) = not_of_this_form
lettered (parted (b ∷ []) rest) = cond (is_letter b) (numbered b (part rest)) not_of_this_form
lettered (parted (b ∷ x ∷ word) rest) = not_of_this_form
lettered unparted = not_of_this_form

-- `T` and nothing else (total)
abbrev pub is_asking : List ℕ → Bool
is_asking line = same_text line (bytes "T")

-- the message of a line
unfoldable pub message_of : List ℕ → Message
message_of line = cond (is_asking line) asks_total (lettered (part line))
