-- `book::reply_last` meets its contract: where no byte stands in the room there is no line. Assumes nothing.
use Rattle.room.specs.RoomLaws.{put_nothing}
use Rattle.lines.specs.AutomatonLaws.{last_none, last_some}
use Rattle.entitlements.specs.Entitlements.{processing}
use Rattle.book.specs.Said.{posting, coming}
use Rattle.book.proofs.reply_last.Goals as goal

pub returns-then-line-eq0 : goal.returns-then-line-eq0
returns-then-line-eq0 c =
    let asked = c.args in
    let comes = coming asked.line asked.account asked.room.now in
    rw (last_none (posting processing) comes c.if-line-eq0.true) (put_nothing asked.out.now 0)

pub returns : goal.returns
returns c =
    let asked = c.args in
    let comes = coming asked.line asked.account asked.room.now in
    let some = last_some (posting processing) comes c.if-line-eq0.false in
    rw some c.post_held-posted.ensures.put
