-- `summary::put_place` meets its contract: what is put one after another is put as one text. Assumes nothing.
use Rattle.room.specs.RoomLaws.{put_then, put_four}
use Rattle.summary.proofs.put_place.Goals as goal

pub returns : goal.returns
returns c =
    let letters = put_then c.put_half-end.ensures c.put_half-end-2.ensures in
    put_four c.put_decimal-end.ensures c.put-end.ensures letters c.put.ensures
