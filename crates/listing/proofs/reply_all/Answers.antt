-- `listing::reply_all` meets its contract: replies have at most 71 bytes for each byte of a read. Assumes nothing.
use Rattle.lines.specs.Answers.{always}
use Rattle.output.specs.Written.{ended_written}
use Rattle.register.specs.Said.{said, coming}
use Rattle.register.specs.Whole.{said_short}
use Rattle.listing.proofs.reply_all.Goals as goal

pub returns : goal.returns
returns c =
    let asked = c.args in
    let comes = coming asked.line asked.room.now in
    record { room_after = c.reply_all.ensures.room_after; starts = ended_written (always said) (λ s. said_short) comes asked.bytes.now c.requires c.reply_all.ensures.put }
