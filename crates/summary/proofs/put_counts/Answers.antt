-- `summary::put_counts` meets its contract: what is put one after another is put as one text. Assumes nothing.
use Rattle.room.specs.RoomLaws.{put_then, put_four}
use Rattle.summary.proofs.put_counts.Goals as goal

pub returns : goal.returns
returns c =
    let four = put_four c.put_line-end.ensures c.put_line-end-2.ensures c.put_line-end-3.ensures c.put_line-end-4.ensures in
    put_then (put_then four c.put_line-end-5.ensures) c.put_line.ensures
