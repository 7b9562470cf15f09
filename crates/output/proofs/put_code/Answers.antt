-- `output::put_code` meets its contract: what is put one after another is put as one text. Assumes nothing.
use Rattle.output.specs.Replying.{put_reply}
use Rattle.output.proofs.put_code.Goals as goal

pub returns : goal.returns
returns c =
    put_reply
    _
    _
    c.put_decimal-end.ensures
    c.put-end.ensures
    c.put-end-2.ensures
    c.put.ensures
