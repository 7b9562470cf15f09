-- `page::look` meets its contract: by an empty text nothing is known. Assumes nothing.
use mathlib.Core.Path.{◌∙◌}
use mathlib.Core.List.{[]}
use Rattle.halves.specs.Halves.{halves_by}
use Rattle.page.specs.Known.{code_by}
use Rattle.page.proofs.PageLaws.{nothing_known, look_known}
use Rattle.page.proofs.look.Goals as goal

pub returns : goal.returns
returns c =
    let asked = c.args in
    c.look_by.ensures ∙ look_known (code_by [] (halves_by 0 0)) (nothing_known (halves_by 0 0)) asked.page.now asked.offset
