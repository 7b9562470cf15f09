-- `listing::reply_last` meets its contract: a reply has at most 71 bytes. Assumes nothing.
use Rattle.lines.specs.Answers.{always}
use Rattle.output.specs.Written.{last_written}
use Rattle.register.specs.Said.{said, coming}
use Rattle.register.specs.Whole.{said_short}
use Rattle.listing.proofs.reply_last.Goals as goal

pub returns : goal.returns
returns c =
    let asked = c.args in
    let comes = coming asked.line asked.room.now in
    last_written (always said) (λ s. said_short) comes c.requires c.reply_last.ensures
