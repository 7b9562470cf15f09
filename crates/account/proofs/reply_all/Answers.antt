-- `account::reply_all` meets its contract: replies have at most 71 bytes for each byte of a read. Assumes nothing.
use Rattle.entitlements.specs.Entitlements.{processing}
use Rattle.output.specs.Written.{ended_written}
use Rattle.book.specs.Said.{posting, coming}
use Rattle.book.specs.Whole.{said_short}
use Rattle.account.proofs.reply_all.Goals as goal

pub returns : goal.returns
returns c =
    let asked = c.args in
    let comes = coming asked.line asked.account asked.room.now in
    record { room_after = c.reply_all.ensures.room_after; starts = ended_written (posting processing) said_short comes asked.bytes.now c.requires c.reply_all.ensures.put }
