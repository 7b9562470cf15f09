-- What is found at an offset by one who knows how an earlier code was read: a text of the same twenty bytes is not read again. How a code
-- is read is a parameter here; where it is reading, this is what specs/Page.antt says. Assumes nothing.
use Rattle.std.specs.Prelude.{ℕ, Bool, cond, not, ◌&&◌, ◌||◌, List, eqb, ltb, length, Option, Some, None, Ok, Err}
use Rattle.facts.specs.Texts.{same_text}
use Rattle.letters.specs.Letters.{letters, number_in}
use Rattle.halves.specs.declared.Halves.{Halves}
use Rattle.halves.specs.Halves.{code_in}
use Rattle.entitlements.specs.declared.Kind.{Kind}
use Rattle.entitlements.specs.Entitlements.{kind_of}
use Rattle.page.specs.declared.LookError.TheVariants as look
use Rattle.page.specs.Page.{Found, record_length, letter_in, code_of, number_text, stretch_at, mark_wrong, is_kind, number_wrong, record_by}

-- whether a text is the same as an earlier one of twenty bytes
abbrev pub same_as : List ℕ → List ℕ → Bool
same_as earlier text = eqb (length earlier) 20 && same_text earlier text

-- the code of a text: what is known of an earlier one that is the same, or what reading it says
unfoldable pub code_by : List ℕ → Halves → List ℕ → Option Halves
code_by earlier known text = cond (same_as earlier text) (Some known) (code_in text)

-- a record of a kind and a number, where its code is read, or 54
abbrev pub with_code : Kind → ℕ → Option Halves → Found
with_code kind number (Some code) = Ok (Some (record_by kind code number))
with_code kind number None = Err look.Content

-- what is found at the start of a stretch: 52, 53, 54 or a record
unfoldable pub found_with : (List ℕ → Option Halves) → List ℕ → Found
found_with reads stretch =
    cond (ltb (length stretch) record_length) (Err look.Cut)
    (cond (mark_wrong stretch) (Err look.Mark)
    (cond (not (is_kind (letter_in stretch)) || number_wrong (number_text stretch)) (Err look.Content)
    (with_code (kind_of (letter_in stretch)) (number_in letters (number_text stretch)) (reads (code_of stretch)))))

-- and at an offset of a page
unfoldable pub look_with : (List ℕ → Option Halves) → List ℕ → ℕ → Found
look_with reads page offset = cond (eqb offset (length page)) (Ok None) (found_with reads (stretch_at page offset))
