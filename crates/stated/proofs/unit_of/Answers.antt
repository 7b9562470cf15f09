-- `stated::unit_of` meets its contract: a line that starts with a kind and a space states what follows them, any other nothing.
-- Assumes nothing.
use mathlib.Core.Path.{refl, sym, ap, ◌∙◌}
use Rattle.room.specs.Room.{put_at}
use Rattle.room.specs.RoomLaws.{put_nil}
use Rattle.stated.specs.StatedLaws.{unit_starts, coordinates_start, unit_none}
use Rattle.stated.proofs.unit_of.Goals as goal

pub returns-then-starts : goal.returns-then-starts
returns-then-starts c =
    let line = c.args.line.now in
    let room = c.args.room.now in
    let so = sym c.starts.ensures ∙ c.if-starts.true in record { value = c.unit_after.ensures.value ∙ sym (unit_starts 66 refl line so); room_after = c.unit_after.ensures.room_after ∙ ap (put_at room 0) (sym (coordinates_start 66 refl line so)) }

pub returns-then-starts-2 : goal.returns-then-starts-2
returns-then-starts-2 c =
    let line = c.args.line.now in
    let room = c.args.room.now in
    let so = sym c.starts-2.ensures ∙ c.if-starts-2.true in record { value = c.unit_after-then-starts-2.ensures.value ∙ sym (unit_starts 70 refl line so); room_after = c.unit_after-then-starts-2.ensures.room_after ∙ ap (put_at room 0) (sym (coordinates_start 70 refl line so)) }

pub returns : goal.returns
returns c =
    let asked = c.args in
    let no-building = sym c.starts.ensures ∙ c.if-starts.false in
    let no_other = sym c.starts-2.ensures ∙ c.if-starts-2.false in
    let none = unit_none asked.line.now no-building no_other in
    record { value = sym none.0; room_after = sym (ap (put_at asked.room.now 0) none.1 ∙ put_nil asked.room.now 0) }
