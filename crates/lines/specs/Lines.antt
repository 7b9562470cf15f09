-- Document 01, "The listing program", sentence by sentence: what a number, a line and a reply are. A text is the list of its bytes.
-- Assumes nothing.
use Rattle.std.specs.Prelude.{ℕ, zero, suc, ◌+◌, ◌-◌, ◌*◌, ◌/◌, ◌%◌, Bool, false, cond, not, ◌&&◌, ◌||◌, List, [], ◌∷◌, ◌++◌, map, length, get_or, leb, ltb, eqb}
use Prim.Native.Char.{code}
use Rattle.facts.specs.Lists.{every}
use Rattle.facts.specs.Texts.{bytes}

-- ---- the pieces of a text

-- pieces whose first is longer by a byte in front
abbrev pub longer : ℕ → List (List ℕ) → List (List ℕ)
longer x [] = (x ∷ []) ∷ []
longer x (p ∷ ps) = (x ∷ p) ∷ ps

-- the pieces of a text between the bytes b: one more than there are of them
unfoldable pub cut : ℕ → List ℕ → List (List ℕ)
cut b [] = [] ∷ []
cut b (x ∷ text) = cond (eqb x b) ([] ∷ cut b text) (longer x (cut b text))

-- ---- "Numbers are decimal, 1 to 10 digits, at most 4,294,967,295, no leading zero but in `0`."

-- a decimal digit, `0` to `9`
abbrev pub is_digit : ℕ → Bool
is_digit b = leb (code "0") b && leb b (code "9")

-- the value of a number n with decimal digits after it
unfoldable pub value_after : ℕ → List ℕ → ℕ
value_after n [] = n
value_after n (d ∷ digits) = value_after (10 * n + (d - code "0")) digits

-- the value of decimal digits
abbrev pub value : List ℕ → ℕ
value word = value_after 0 word

-- a leading zero but in `0`
abbrev pub zero_leads : List ℕ → Bool
zero_leads word = ltb 1 (length word) && eqb (get_or word 0 0) (code "0")

-- decimal, 1 to `digits` digits, at most `most`, no leading zero but in `0`
unfoldable pub is_within : ℕ → ℕ → List ℕ → Bool
is_within digits most word = every is_digit word && (leb 1 (length word) && leb (length word) digits) && leb (value word) most && not (zero_leads word)

-- decimal, 1 to 10 digits, at most 4,294,967,295, no leading zero but in `0`
abbrev pub is_number : List ℕ → Bool
is_number word = is_within 10 4294967295 word

-- ---- "Standard input, a unit a line: `B` or `F` (building, other), a space, the number, then coordinates, each after one space."

-- what stands in a line: a unit, its kind by the letter, or a line not of this form
pub data Form : Type 0 where
  unit : (kind number : ℕ) (coordinates : List ℕ) → Form
  not_of_this_form : Form

-- `B` or `F` (building, other)
abbrev pub is_kind : List ℕ → Bool
is_kind [] = false
is_kind (b ∷ []) = eqb b (code "B") || eqb b (code "F")
is_kind (b ∷ x ∷ text) = false

-- the form of words: a kind, a number, and any count of coordinates
abbrev pub form_of : List (List ℕ) → Form
form_of [] = not_of_this_form
form_of (kind ∷ []) = not_of_this_form
form_of (kind ∷ number ∷ coordinates) =
    cond (is_kind kind && (is_number number && every is_number coordinates)) (unit (get_or kind 0 0) (value number) (map value coordinates)) not_of_this_form

-- the form of a line, whose words have one space between them
unfoldable pub form : List ℕ → Form
form line = form_of (cut (code " ") line)

-- ---- "A last line needs no line feed, and none starts after a line feed that ends the input." "Empty input gives no output."

-- pieces without the last, where that is empty
abbrev pub without_empty_last : List (List ℕ) → List (List ℕ)
without_empty_last [] = []
without_empty_last ([] ∷ []) = []
without_empty_last ((b ∷ line) ∷ []) = (b ∷ line) ∷ []
without_empty_last (line ∷ next ∷ lines) = line ∷ without_empty_last (next ∷ lines)

-- the lines of an input
unfoldable pub lines_of : List ℕ → List (List ℕ)
lines_of input = without_empty_last (cut (code "\n") input)

-- ---- "Output per line: line number from 1, a space, then the code or `refused`, number and place, each after one space, and a line feed."

-- the decimal spelling of n in `count` digits at most
unfoldable pub spelling : ℕ → ℕ → List ℕ
spelling zero n = []
spelling (suc count) n = cond (ltb n 10) ((code "0" + n) ∷ []) (spelling count (n / 10) ++ ((code "0" + n % 10) ∷ []))

-- the decimal spelling of a number, of which a machine's have 20 digits at most
abbrev pub decimal : ℕ → List ℕ
decimal n = spelling 20 n

-- what is said of a line
pub data Reply : Type 0 where
  coded : (text : List ℕ) → Reply
  refused : (number place : ℕ) → Reply

-- the code, or `refused`, number and place, each after one space
abbrev pub saying : Reply → List ℕ
saying (coded text) = text
saying (refused number place) = bytes "refused " ++ decimal number ++ bytes " " ++ decimal place

-- the reply to the line with a number
unfoldable pub reply_line : ℕ → Reply → List ℕ
reply_line number said = decimal number ++ bytes " " ++ saying said ++ bytes "\n"

-- ---- "Refused 10: more than 24,576 bytes before the line feed or the end of input; the rest of that line is passed over. Refused 9: any
-- ---- other line not of this form, empty ones too. Both have place 0 and come before 1 to 8."

-- the most bytes of a line that is not refused 10
abbrev pub longest : ℕ
longest = 24576

-- what says it of a unit's kind, number and coordinates
abbrev pub Coding : Type 0
Coding = ℕ → ℕ → List ℕ → Reply

-- what is said of a form, where `coding` says it of a unit
abbrev pub form_said : Coding → Form → Reply
form_said coding (unit kind number coordinates) = coding kind number coordinates
form_said coding not_of_this_form = refused 9 0

-- what is said of a line
unfoldable pub line_said : Coding → List ℕ → Reply
line_said coding line = cond (ltb longest (length line)) (refused 10 0) (form_said coding (form line))

-- the replies to lines whose first has a number, where `said` says what of a line
unfoldable pub replies : (List ℕ → Reply) → ℕ → List (List ℕ) → List ℕ
replies said number [] = []
replies said number (line ∷ lines) = reply_line number (said line) ++ replies said (number + 1) lines

-- the output for an input: lines are numbered from 1
unfoldable pub output_of : (List ℕ → Reply) → List ℕ → List ℕ
output_of said input = replies said 1 (lines_of input)
