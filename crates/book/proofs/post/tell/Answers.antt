-- `book::post::tell` meets its contract: what is put one after another is put as one text. Assumes nothing.
use Rattle.room.specs.RoomLaws.{put_then}
use Rattle.output.specs.Replying.{put_reply}
use Rattle.book.specs.Said.{total_said}
use Rattle.book.proofs.post.tell.Goals as goal

pub returns : goal.returns
returns c =
    let asked = c.args in record {
      step_value = c.stay.ensures;
      put = put_reply asked.number (total_said asked.account.now.total) c.put_decimal-end.ensures c.put-end.ensures
          (put_then c.put-end-2.ensures c.put_decimal-end-2.ensures) c.put-put.ensures;
    }
