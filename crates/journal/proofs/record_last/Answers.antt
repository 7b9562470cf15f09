-- `journal::record_last` meets its contract: for a line at most 31 bytes are recorded, and at most 71 told. Assumes nothing.
use Rattle.output.specs.WrittenBy.{last_starts}
use Rattle.recording.specs.Recorded.{coming}
use Rattle.recording.specs.Whole.{records_within, told_within}
use Rattle.journal.proofs.record_last.Goals as goal

pub returns : goal.returns
returns c =
    let asked = c.args in
    let comes = coming asked.line asked.room.now in
    record { starts = last_starts records_within comes c.requires.record_length_in_bounds c.record_last.ensures.put; starts_2 = last_starts told_within comes c.requires.reply_most_in_bounds c.record_last.ensures.put_2 }
