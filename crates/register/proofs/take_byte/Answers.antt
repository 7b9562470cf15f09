-- `register::take_byte` meets its contract, by the two laws of one byte. Assumes nothing.
use Rattle.lines.specs.Answers.{always}
use Rattle.lines.specs.AutomatonLaws.{byte_feed, byte_more}
use Rattle.room.specs.RoomLaws.{put_nothing}
use Rattle.register.specs.Said.{said, coming}
use Rattle.register.proofs.take_byte.Goals as goal

pub returns-then-byte-eq10 : goal.returns-then-byte-eq10
returns-then-byte-eq10 c =
    let asked = c.args in
    let feed = c.if-byte-eq10.true in
    let fed = byte_feed (always said) (coming asked.line asked.room.now) asked.byte feed in
    record { room_after = rw (fed.0, c.wrapping_add_u64-number.ensures.value); put = rw fed.1 c.reply_held-put.ensures }

pub returns : goal.returns
returns c =
    let asked = c.args in
    let grew = byte_more (always said) (coming asked.line asked.room.now) asked.byte c.if-byte-eq10.false in
    record { room_after = rw (grew.0, c.add-len.ensures.value, c.add-len.ensures.room_after); put = rw grew.1 (put_nothing asked.out.now asked.at) }
