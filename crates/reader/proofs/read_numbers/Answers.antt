-- `reader::read_numbers` meets its contract: where no check of the location refuses, the fields are read. Assumes nothing.
use Rattle.std.specs.Prelude.{◌≡◌}
use Rattle.std.proofs.Common.{ap, sym, ◌∙◌, rules}
use Rattle.replies.specs.Replies.{run}
use Rattle.code.specs.declared.Fields.{Fields}
use Rattle.code.specs.Code.{location_checks, span_checks, told_where}
use Rattle.code.specs.ReadingLaws.{location_then}
use Rattle.reader.proofs.read_numbers.Goals as goal

pub returns : goal.returns
unfolding location_checks
returns c =
    let a = c.args in
    let located : (run (location_checks a.location)).number ≡ 0 = search rules in
    c.read_fields.ensures
    ∙ ap (λ (f : Fields). told_where (run (span_checks f)) f) c.fields_in.ensures
    ∙ sym (location_then a.location a.rest located)
