-- `summary::put_summary` meets its contract: what is put one after another is put as one text. Assumes nothing.
use Rattle.room.specs.RoomLaws.{put_then}
use Rattle.summary.specs.Summary.{place_lines, summary_of}
use Rattle.summary.proofs.put_summary.Goals as goal

pub returns : goal.returns
unfolding summary_of
returns c =
    let account = c.args.replayed.account in
    let lines =
    put_then {t = place_lines account.high account.low account.active}
    (put_then c.put_line-end.ensures c.put_line-end-2.ensures)
    c.put_places.ensures in
    put_then (put_then c.put_stop-end.ensures c.put_counts-end.ensures) lines
