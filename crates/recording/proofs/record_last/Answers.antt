-- `recording::record_last` meets its contract: where no byte stands in the room there is no line. Assumes nothing.
use Rattle.lines.specs.Answers.{always}
use Rattle.lines.specs.PuttingLaws.{last_none, last_some}
use Rattle.room.specs.RoomLaws.{put_nothing}
use Rattle.recording.specs.Recorded.{said, as_record, as_told, coming}
use Rattle.recording.proofs.record_last.Goals as goal

pub returns-then-line-eq0 : goal.returns-then-line-eq0
returns-then-line-eq0 c =
    let asked = c.args in
    let none = last_none (always said) (coming asked.line asked.room.now) c.if-line-eq0.true in
    record { put = rw (none as_record) (put_nothing asked.out.now 0); put_2 = rw (none as_told) (put_nothing asked.told.now 0) }

pub returns : goal.returns
returns c =
    let asked = c.args in
    let some = last_some (always said) (coming asked.line asked.room.now) c.if-line-eq0.false in
    record { put = rw (some as_record) c.write_held.ensures.put; put_2 = rw (some as_told) c.write_held.ensures.put_2 }
