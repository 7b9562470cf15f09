-- `summary::put_line` meets its contract: what is put one after another is put as one text. Assumes nothing.
use Rattle.room.specs.RoomLaws.{put_four}
use Rattle.summary.proofs.put_line.Goals as goal

pub returns : goal.returns
returns c =
    put_four c.put-end.ensures c.put-end-2.ensures c.put_decimal-end.ensures c.put.ensures
