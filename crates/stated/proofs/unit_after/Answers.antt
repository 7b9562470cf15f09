-- `stated::unit_after` meets its contract: at each return what was found at the number and after it says what the line states.
-- Assumes nothing.
use mathlib.Core.Path.{sym, ap, ◌∙◌}
use Rattle.room.specs.Room.{put_at}
use Rattle.room.specs.RoomLaws.{put_nil}
use Rattle.stated.specs.StatedLaws.{unit_no_number, unit_no_coordinate, unit_coordinates, unit_stated}
use Rattle.stated.proofs.unit_after.Goals as goal

pub returns-in_err-number : goal.returns-in_err-number
returns-in_err-number c =
    let asked = c.args in
    let none = unit_no_number asked.kind asked.line.now c.requires (sym c.number_at.ensures ∙ c.in_err-number.was) in
    record { value = c.from_residual.ensures ∙ sym none.0; room_after = sym (ap (put_at asked.room.now 0) none.1 ∙ put_nil asked.room.now 0) }

pub returns-in_err-count : goal.returns-in_err-count
returns-in_err-count c =
    let asked = c.args in
    let known = c.requires in
    let line = asked.line.now in
    let at = sym c.number_at.ensures ∙ c.in_ok-number.was in
    let none = unit_no_coordinate asked.kind line known c.in_ok-number.number c.in_ok-number.end at (sym c.numbers_at.ensures.value ∙ c.in_err-count.was) in
    let first = unit_coordinates asked.kind line known c.in_ok-number.number c.in_ok-number.end at in
    record { value = c.from_residual-in_err-count.ensures ∙ sym none; room_after = c.numbers_at.ensures.room_after ∙ ap (put_at asked.room.now 0) (sym first) }

pub returns : goal.returns
returns c =
    let asked = c.args in
    let known = c.requires in
    let line = asked.line.now in
    let at = sym c.number_at.ensures ∙ c.in_ok-number.was in
    let all = unit_stated asked.kind line known c.in_ok-number.number c.in_ok-number.end at c.in_ok-count.count (sym c.numbers_at.ensures.value ∙ c.in_ok-count.was) in
    let first = unit_coordinates asked.kind line known c.in_ok-number.number c.in_ok-number.end at in
    record { value = sym all; room_after = c.numbers_at.ensures.room_after ∙ ap (put_at asked.room.now 0) (sym first) }
