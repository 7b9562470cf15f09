-- `recording::take_byte` meets its contract, by the two laws of one byte. Assumes nothing.
use Rattle.lines.specs.Answers.{always}
use Rattle.lines.specs.PuttingLaws.{byte_feed, byte_more}
use Rattle.room.specs.RoomLaws.{put_nothing}
use Rattle.recording.specs.Recorded.{said, as_record, as_told, coming}
use Rattle.recording.proofs.take_byte.Goals as goal

pub returns-then-byte-eq10 : goal.returns-then-byte-eq10
returns-then-byte-eq10 c =
    let asked = c.args in
    let fed = byte_feed (always said) (coming asked.recorded.line asked.room.now) asked.byte c.if-byte-eq10.true in
    record { room_after = rw (fed.0, c.wrapping_add_u64-number.ensures.value); put = rw (fed.1 as_record) c.write_held-ends.ensures.put; put_2 = rw (fed.1 as_told) c.write_held-ends.ensures.put_2 }

pub returns : goal.returns
returns c =
    let asked = c.args in
    let grew = byte_more (always said) (coming asked.recorded.line asked.room.now) asked.byte c.if-byte-eq10.false in
    let recorded = asked.recorded in record { room_after = rw (grew.0, c.add-len.ensures.value, c.add-len.ensures.room_after); put = rw (grew.1 as_record) (put_nothing asked.out.now recorded.put); put_2 = rw (grew.1 as_told) (put_nothing asked.told.now recorded.told) }
