-- `output::put_decimal` meets its contract: the fewest digits that `io::decimal` spells are the number's spelling.
-- Assumes nothing.
use native.Mathlib.Omega.{arith}
use mathlib.Core.Path.{◌∙◌}
use Rattle.output.specs.SpellingLaws.{few_digits, spelled}
use Rattle.output.proofs.put_decimal.Goals as goal

pub returns : goal.returns
returns c =
    let n = c.args.n in
    let count = c.decimal-count.result in
    let text = c.decimal-count.ensures.digits ∙ spelled count n 20 (few_digits count n (omega arith) c.decimal-count.ensures.len) c.decimal-count.ensures.len in
    rw text at c.put.ensures
