-- `register::reply_last` meets its contract: where no byte stands in the room there is no line. Assumes nothing.
use Rattle.lines.specs.Answers.{always}
use Rattle.lines.specs.AutomatonLaws.{last_none, last_some}
use Rattle.room.specs.RoomLaws.{put_nothing}
use Rattle.register.specs.Said.{said, coming}
use Rattle.register.proofs.reply_last.Goals as goal

pub returns-then-line-eq0 : goal.returns-then-line-eq0
returns-then-line-eq0 c =
    let asked = c.args in
    rw (last_none (always said) (coming asked.line asked.room.now) c.if-line-eq0.true) (put_nothing asked.out.now 0)

pub returns : goal.returns
returns c =
    let asked = c.args in
    let some = last_some (always said) (coming asked.line asked.room.now) c.if-line-eq0.false in
    rw some c.reply_held.ensures
