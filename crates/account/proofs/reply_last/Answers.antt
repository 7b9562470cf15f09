-- `account::reply_last` meets its contract: a reply has at most 71 bytes. Assumes nothing.
use Rattle.entitlements.specs.Entitlements.{processing}
use Rattle.output.specs.Written.{last_written}
use Rattle.book.specs.Said.{posting, coming}
use Rattle.book.specs.Whole.{said_short}
use Rattle.account.proofs.reply_last.Goals as goal

pub returns : goal.returns
returns c =
    let asked = c.args in
    let comes = coming asked.line asked.account asked.room.now in
    last_written (posting processing) said_short comes c.requires c.reply_last.ensures
