-- `page::write_at` meets its contract: past the end the stretch is empty, and before it the page has the stretch back. Assumes nothing.
use Rattle.page.proofs.PageLaws.{writing_past, writing_within}
use Rattle.page.proofs.write_at.Goals as goal

pub returns-then-page-offset : goal.returns-then-page-offset
returns-then-page-offset c =
    let asked = c.args in
    let wrote = c.write_record in
    writing_past asked.page.now asked.offset asked.kind asked.text.now asked.number c.if-page-offset.true wrote.result wrote.ensures

pub returns : goal.returns
returns c =
    let asked = c.args in
    let wrote = c.write_record-2 in
    writing_within asked.page.now asked.offset asked.kind asked.text.now asked.number wrote.result wrote.ensures
