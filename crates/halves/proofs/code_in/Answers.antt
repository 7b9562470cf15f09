-- `halves::code_in` meets its contract: what the text spells, as a code. Assumes nothing.
use Rattle.std.specs.Prelude.{ℕ, ◌≡◌, refl, Option, Some, None, Result, Ok, Err}
use Rattle.std.specs.Result.{result_ok}
use Rattle.std.proofs.Common.{ap, ◌∙◌}
use Rattle.spelling.specs.declared.Misspelled.{Misspelled}
use Rattle.spelling.specs.declared.Misspelled.TheVariants.{Length, Letter}
use Rattle.spelling.specs.Spelling.{spells}
use Rattle.halves.specs.declared.Halves.{Halves}
use Rattle.halves.specs.Halves.{code_of}
use Rattle.halves.specs.HalvesLaws.{code_spelled, code_spelled_lem}
use Rattle.halves.proofs.code_in.Goals as goal

-- The code of two numbers, if there are two
abbrev code_at : Option (ℕ × ℕ) → Option Halves
code_at (Some (location, rest)) = code_of location rest
code_at None = None

-- is that of what spells them
code_of_spelled : (text : Result (ℕ × ℕ) Misspelled) → code_at (result_ok text) ≡ code_spelled (spells text)
code_of_spelled (Ok (location, rest)) = refl
code_of_spelled (Err Length) = refl
code_of_spelled (Err (Letter byte)) = refl

pub returns-in_err-location : goal.returns-in_err-location
returns-in_err-location c =
    c.from_residual.ensures
    ∙ ap code_at c.in_err-location.ensures.value
    ∙ code_of_spelled c.numbers_in.result
    ∙ ap code_spelled c.numbers_in.ensures
    ∙ code_spelled_lem c.args.text.now

pub returns : goal.returns
returns c =
    c.code_of.ensures
    ∙ ap code_at c.in_ok-location.ensures.value
    ∙ code_of_spelled c.numbers_in.result
    ∙ ap code_spelled c.numbers_in.ensures
    ∙ code_spelled_lem c.args.text.now
