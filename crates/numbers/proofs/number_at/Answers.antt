-- `numbers::number_at` meets its contract: a number that is found is at most 4,294,967,295, so that 32 bits hold it. Assumes nothing.
use borrow.Author.Rules.{rules}
use mathlib.Core.Path.{sym, ◌∙◌}
use Rattle.numbers.specs.NumbersLaws.{within_found}
use Rattle.numbers.proofs.number_at.Goals as goal

pub overflow_cast-result : goal.overflow_cast-result
overflow_cast-result c =
    let asked = c.args in
    let is = sym c.within_at.ensures ∙ c.in_ok-value.was in
    let small = (within_found 10 4294967295 asked.line.now asked.at c.in_ok-value.value c.in_ok-value.end is).small in
    search rules
