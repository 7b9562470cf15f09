-- `output::put_refused` meets its contract: what is put one after another is put as one text. Assumes nothing.
use Rattle.output.specs.Replying.{put_reply}
use Rattle.output.proofs.put_refused.Goals as goal

pub returns : goal.returns
returns c =
    put_reply
    _
    _
    c.put_decimal-end.ensures
    c.put-end.ensures
    c.put_refusal-end.ensures
    c.put.ensures
