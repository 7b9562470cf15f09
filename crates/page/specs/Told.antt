-- What the parts of a look tell: the number that a text spells, and what a record of a kind holds. Assumes nothing.
use Rattle.std.specs.Prelude.{ℕ, ◌%◌, ◌^◌, cond, List, ltb, length, Option, Err}
use Rattle.letters.specs.Alphabet.{first_other}
use Rattle.letters.specs.Letters.{letters, number_in}
use Rattle.halves.specs.declared.Halves.{Halves}
use Rattle.entitlements.specs.declared.Kind.{Kind}
use Rattle.page.specs.declared.LookError.TheVariants as look
use Rattle.page.specs.Page.{Found, number_text, code_of, number_wrong}
use Rattle.page.specs.Known.{with_code}

-- The number that a text spells, its low sixty bits; 0 where a byte is no letter
abbrev pub number_of : List ℕ → ℕ
number_of text = cond (ltb (first_other letters text) (length text)) 0 (number_in letters text % 2 ^ 60)

-- What a record of a kind holds, however its code is read
abbrev pub content_with : (List ℕ → Option Halves) → Kind → List ℕ → Found
content_with reads kind stretch =
    cond (number_wrong (number_text stretch)) (Err look.Content) (with_code kind (number_in letters (number_text stretch)) (reads (code_of stretch)))
