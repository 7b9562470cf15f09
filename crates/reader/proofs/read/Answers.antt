-- `reader::read` meets its contract: what the text spells, read, or why it spells nothing. Assumes nothing.
use Rattle.std.specs.Prelude.{◌≡◌, refl, Err}
use Rattle.std.proofs.Common.{ap, ◌∙◌}
use Rattle.std.proofs.lemmas.Result.{err_from_is_err_and}
use Rattle.spelling.specs.declared.Misspelled.{Misspelled}
use Rattle.spelling.specs.declared.Misspelled.TheVariants.{Length, Letter}
use Rattle.spelling.specs.Spelling.{spells}
use Rattle.code.specs.Code.{tells, misspelled, reading_on, reading}
use Rattle.reader.proofs.read.Goals as goal

-- A text that spells no numbers tells what is refused of it
tells_misspelled : (text : Misspelled) → tells (Err (misspelled text)) ≡ reading_on (spells (Err text))
tells_misspelled Length = refl
tells_misspelled (Letter byte) = refl

pub returns-in_err-location : goal.returns-in_err-location
unfolding reading
returns-in_err-location c =
    let refused = err_from_is_err_and c.from_residual.result c.from_residual.ensures.1 in
    ap tells (refused.1 ∙ ap Err refused.2) ∙ tells_misspelled c.in_err-location.field-0.0 ∙ ap reading_on c.in_err-location.ensures

pub returns : goal.returns
unfolding reading
returns c = c.read_numbers.ensures ∙ ap reading_on c.in_ok-location.ensures
