-- `summary::put_stop` meets its contract: `end` where there is no refusal; otherwise what is put one after another is put as one text. Assumes nothing.
use borrow.Author.Tests.{eq-eqb, ne_eqb}
use Rattle.room.specs.RoomLaws.{put_then, put_four}
use Rattle.summary.proofs.put_stop.Goals as goal

pub returns-then-refusal-eq0 : goal.returns-then-refusal-eq0
returns-then-refusal-eq0 c =
    let asked = c.args in
    rw (eq-eqb asked.refusal 0 c.if-refusal-eq0.true) c.put_line.ensures

pub returns : goal.returns
returns c =
    let asked = c.args in
    let name = put_then c.put-end.ensures c.put_decimal-end.ensures in
    rw (ne_eqb asked.refusal 0 c.if-refusal-eq0.false)
    (put_four name c.put-end-2.ensures c.put_decimal-end-2.ensures c.put.ensures)
