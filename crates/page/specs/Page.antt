-- The journal page (document 02, request 6), in the request's words: a record's 31 bytes, what writing one at an offset says and leaves,
-- and what is found at an offset. Assumes nothing.
use Rattle.std.specs.Prelude.{ℕ, ◌+◌, Bool, cond, not, ◌||◌, List, [], ◌∷◌, ◌++◌, eqb, ltb, length, get_or, take, drop, Option, Some, None, Result, Ok, Err}
use Prim.Native.Char.{code}
use Rattle.facts.specs.Texts.{same_text}
use Rattle.replies.specs.Replies.{Said, refused, accepted, Check, check, run, Outcome}
use Rattle.letters.specs.Alphabet.{first_other}
use Rattle.letters.specs.Letters.{letters, spelled_in, number_in}
use Rattle.halves.specs.declared.Halves.{Halves}
use Rattle.halves.specs.Halves.{halves_in, readable}
use Rattle.entitlements.specs.declared.Kind.{Kind}
use Rattle.entitlements.specs.Entitlements.{largest, letter_of, kind_of}
use Rattle.page.specs.declared.RecordError.{RecordError}
use Rattle.page.specs.declared.RecordError.TheVariants as write
use Rattle.page.specs.declared.Record.{Record}
use Rattle.page.specs.declared.LookError.{LookError}
use Rattle.page.specs.declared.LookError.TheVariants as look

-- ---- "A page is a lent buffer of records end to end, each 31 bytes"

abbrev pub record_length : ℕ
record_length = 31

-- "the mark 2A 2B", in decimal
abbrev pub mark : List ℕ
mark = 42 ∷ 43 ∷ []

-- "the mark 2A 2B, `A` or `C`, the twenty code letters, and the message number in eight letters of base 32, high first"
unfoldable pub record_of : Kind → List ℕ → ℕ → List ℕ
record_of kind text number = mark ++ (letter_of kind ∷ []) ++ text ++ spelled_in letters 8 number

-- What stands at these places of the bytes of a record
abbrev pub mark_of : List ℕ → List ℕ
mark_of bytes = take 2 bytes

abbrev pub letter_in : List ℕ → ℕ
letter_in bytes = get_or bytes 2 0

abbrev pub code_of : List ℕ → List ℕ
code_of bytes = take 20 (drop 3 bytes)

abbrev pub number_text : List ℕ → List ℕ
number_text bytes = take 8 (drop 23 bytes)

-- ---- Writing: "A record is written into its own stretch of the journal page and no other byte changes"

-- A record's own stretch starts at its offset and goes to the page's end: past that it is empty
abbrev pub stretch_at : List ℕ → ℕ → List ℕ
stretch_at page offset = drop offset page

-- "41 message number 0 or too large, 42 a code that reading refuses", "then 51, fewer than 31 bytes from the offset"
unfoldable pub write_checks : List ℕ → ℕ → List ℕ → List Check
write_checks text number stretch =
    check 41 (eqb number 0 || ltb largest number)
    ∷ check 42 (not (readable text))
    ∷ check 51 (ltb (length stretch) record_length)
    ∷ []

-- What is said, and the room afterwards
abbrev pub outcome_by : Said → List ℕ → Outcome
outcome_by said room = record { said = said; room = room }

-- What writing says, and the stretch afterwards: its first 31 bytes are the record; a refusal writes nothing
unfoldable pub writing : Kind → List ℕ → ℕ → List ℕ → Outcome
writing kind text number stretch =
    outcome_by (run (write_checks text number stretch))
    (cond (eqb (run (write_checks text number stretch)).number 0) (record_of kind text number ++ drop record_length stretch) stretch)

-- and at an offset of a page: the bytes before the offset stay
abbrev pub writing_at : List ℕ → ℕ → Kind → List ℕ → ℕ → Outcome
writing_at page offset kind text number =
    outcome_by (writing kind text number (stretch_at page offset)).said
    (take offset page ++ (writing kind text number (stretch_at page offset)).room)

-- What writing answers: that it is done, or what is refused
abbrev pub Written : Type 0
Written = Result (Unit {0}) RecordError

-- The number of each answer
abbrev pub says : Written → Said
says (Ok _) = accepted
says (Err write.Number) = refused 41 0
says (Err write.Code) = refused 42 0
says (Err write.Short) = refused 51 0

-- What an answer of writing says, with the room
abbrev pub leaves : Written → List ℕ → Outcome
leaves answer room = outcome_by (says answer) room

-- ---- Reading: "Reading gives, in order, 52 .., 53 .., 54 ..". An offset past the end has an empty stretch

-- "53 mark wrong"
abbrev pub mark_wrong : List ℕ → Bool
mark_wrong stretch = not (same_text (mark_of stretch) mark)

-- "`A` or `C`"
abbrev pub is_kind : ℕ → Bool
is_kind letter = eqb letter (code "A") || eqb letter (code "C")

-- "a number with a byte that is no letter, or number 0"
abbrev pub number_wrong : List ℕ → Bool
number_wrong text = ltb (first_other letters text) (length text) || eqb (number_in letters text) 0

-- "54 neither `A` nor `C`, a code that reading refuses, a number with a byte that is no letter, or number 0"
abbrev pub content_wrong : List ℕ → Bool
content_wrong stretch =
    not (is_kind (letter_in stretch)) || (not (readable (code_of stretch)) || number_wrong (number_text stretch))

-- What a record holds: a message, its code by the halves
abbrev pub record_by : Kind → Halves → ℕ → Record
record_by kind code number = record { kind = kind; code = code; number = number }

-- of a stretch
abbrev pub record_in : List ℕ → Record
record_in stretch = record_by (kind_of (letter_in stretch)) (halves_in (code_of stretch)) (number_in letters (number_text stretch))

-- What is found: a record, the end as no record, or what is refused
abbrev pub Found : Type 0
Found = Result (Option Record) LookError

-- What is found at the start of a stretch: "52 offset past the end or record cut short", 53, 54, or a record
unfoldable pub found_in : List ℕ → Found
found_in stretch =
    cond (ltb (length stretch) record_length) (Err look.Cut)
    (cond (mark_wrong stretch) (Err look.Mark)
    (cond (content_wrong stretch) (Err look.Content) (Ok (Some (record_in stretch)))))

-- What is found at an offset of a page: "An offset at the end is "end""
unfoldable pub look_at : List ℕ → ℕ → Found
look_at page offset = cond (eqb offset (length page)) (Ok None) (found_in (stretch_at page offset))

-- The number of each case: 0 for a record and for the end
abbrev pub refusal_of : Found → ℕ
refusal_of (Ok (Some r)) = 0
refusal_of (Ok None) = 0
refusal_of (Err look.Cut) = 52
refusal_of (Err look.Mark) = 53
refusal_of (Err look.Content) = 54

-- Bytes where a record is found, and none in every other case
abbrev pub where_found : Found → List ℕ → List ℕ
where_found (Ok (Some r)) bytes = bytes
where_found (Ok None) bytes = []
where_found (Err e) bytes = []

-- "Reading the record at an offset answers with the code's own twenty bytes in the page": from offset 3 of the record
abbrev pub code_at : List ℕ → ℕ → List ℕ
code_at page offset = where_found (look_at page offset) (take 20 (drop (offset + 3) page))
