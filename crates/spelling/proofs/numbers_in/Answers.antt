-- `spelling::numbers_in` meets its contract: what twenty letters spell fits. Assumes nothing.
use Rattle.std.specs.Prelude.{◌≤◌, length}
use Rattle.std.proofs.Common.{arith, ap₂, sym, ◌∙◌}
use Rattle.letters.specs.Alphabet.{first_other}
use Rattle.letters.specs.Letters.{letters}
use Rattle.letters.specs.Words.{first_word}
use Rattle.spelling.specs.Spelling.{two_numbers}
use Rattle.spelling.specs.SpellingLaws.{TwentyLetters, letters_spell, location_low, rest_low}
use Rattle.spelling.proofs.numbers_in.Goals as goal

pub returns : goal.returns
returns c =
    let text = c.args.text.now in
    let all : length text ≤ first_other letters text = omega (arith, c.first_other-other.ensures, c.if-other-text.false) in
    let t : TwentyLetters text = record { twenty = c.if-text-ne20.false; word = first_word text all } in
    ap₂ two_numbers (c.number.ensures ∙ location_low t) (c.number-2.ensures ∙ rest_low t) ∙ sym (letters_spell t)
