-- `page::look_by` meets its contract: the end, past it, or what is found in the stretch. Assumes nothing.
use mathlib.Core.Path.{ap, sym, ◌∙◌}
use borrow.Author.Rules.{part_to_end}
use Rattle.page.specs.Known.{code_by, found_with}
use Rattle.page.proofs.PageLaws.{look_end, look_in, look_past}
use Rattle.page.proofs.look_by.Goals as goal

pub returns-then-offset-page : goal.returns-then-offset-page
returns-then-offset-page c =
    let asked = c.args in
    sym (look_end (code_by asked.earlier.now asked.known) asked.page.now asked.offset c.if-offset-page.true)

pub returns-then-page-offset : goal.returns-then-page-offset
returns-then-page-offset c =
    let asked = c.args in
    sym (look_past (code_by asked.earlier.now asked.known) asked.page.now asked.offset c.if-page-offset.true)

pub returns : goal.returns
returns c =
    let asked = c.args in
    let reads = code_by asked.earlier.now asked.known in
    c.found_by.ensures
    ∙ ap (found_with reads) (part_to_end asked.page.now asked.offset)
    ∙ sym (look_in reads asked.page.now asked.offset c.if-offset-page.false)
