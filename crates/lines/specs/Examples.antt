-- Worked examples of specs/Lines.antt, each by computation: numbers, lines and replies on both sides of their rules. The page's own
-- output is in register/specs/Page.antt.
-- Assumes nothing.
use Rattle.std.specs.Prelude.{◌≡◌, refl, true, false, [], ◌∷◌, map, replicate}
use Rattle.facts.specs.Texts.{bytes}
use Rattle.lines.specs.Lines.{cut, value_after, is_within, is_number, unit, not_of_this_form, form, lines_of, spelling, coded, refused}
use Rattle.lines.specs.Lines.{reply_line, line_said, replies, output_of}

-- numbers, and what is none
numbers : map is_number (bytes "0" ∷ bytes "7" ∷ bytes "10" ∷ bytes "4294967295" ∷ []) ≡ true ∷ true ∷ true ∷ true ∷ []
unfolding is_within value_after
numbers = refl

no_numbers_lem : map is_number (bytes "" ∷ bytes "00" ∷ bytes "01" ∷ bytes "4294967296" ∷ bytes "10000000000" ∷ bytes "-1" ∷ bytes "1x" ∷ [])
    ≡ replicate 7 false
unfolding is_within value_after
no_numbers_lem = refl

-- the page's first line, a line with no coordinates, and lines not of this form
page_line : form (bytes "F 0 0 0 0 960 32 960 32 0") ≡ unit 70 0 (0 ∷ 0 ∷ 0 ∷ 960 ∷ 32 ∷ 960 ∷ 32 ∷ 0 ∷ [])
unfolding form cut is_within value_after
page_line = refl

no_coordinates : form (bytes "B 12") ≡ unit 66 12 []
unfolding form cut is_within value_after
no_coordinates = refl

other_lines : map form (bytes "" ∷ bytes "B" ∷ bytes "B " ∷ bytes "B 1 " ∷ bytes "B  1" ∷ bytes "b 1" ∷ bytes "BF 1" ∷ bytes " B 1" ∷ [])
    ≡ replicate 8 not_of_this_form
unfolding form cut is_within value_after
other_lines = refl

-- the lines of an input
no_lines : lines_of (bytes "") ≡ []
unfolding lines_of cut
no_lines = refl

ended_lines : lines_of (bytes "a\n\nb\n") ≡ bytes "a" ∷ [] ∷ bytes "b" ∷ []
unfolding lines_of cut
ended_lines = refl

open_line : lines_of (bytes "\nab") ≡ [] ∷ bytes "ab" ∷ []
unfolding lines_of cut
open_line = refl

-- the page's output
page_code : reply_line 1 (coded (bytes "00000000001UY1120000")) ≡ bytes "1 00000000001UY1120000\n"
unfolding reply_line spelling
page_code = refl

page_refusal : reply_line 3 (refused 9 0) ≡ bytes "3 refused 9 0\n"
unfolding reply_line spelling
page_refusal = refl

long_number : reply_line 4294967296 (refused 4 1023) ≡ bytes "4294967296 refused 4 1023\n"
unfolding reply_line spelling
long_number = refl

-- a whole output, where every unit is refused 3 at the place of its own number
whole_output : output_of (line_said (λ kind number coordinates. refused 3 number)) (bytes "F 0\n\nB 7") ≡ bytes "1 refused 3 0\n2 refused 9 0\n3 refused 3 7\n"
unfolding output_of replies line_said lines_of cut form is_within value_after reply_line spelling
whole_output = refl
