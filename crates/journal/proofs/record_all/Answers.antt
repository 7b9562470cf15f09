-- `journal::record_all` meets its contract: for each byte of a read at most 31 bytes are recorded, and at most 71 told. Assumes nothing.
use Rattle.output.specs.WrittenBy.{ended_starts}
use Rattle.recording.specs.Recorded.{coming}
use Rattle.recording.specs.Whole.{records_within, told_within}
use Rattle.journal.proofs.record_all.Goals as goal

pub returns : goal.returns
returns c =
    let asked = c.args in
    let comes = coming asked.line asked.room.now in
    let bytes = asked.bytes.now in
    record { room_after = c.record_all.ensures.room_after; starts = ended_starts records_within comes bytes c.requires.record_length_in_bounds c.record_all.ensures.put; starts_2 = ended_starts told_within comes bytes c.requires.reply_most_in_bounds c.record_all.ensures.put_2 }
