-- `register::reply::reply_line` meets its contract: a line that is too long, one not of this form, and one that states a unit, whose
-- coordinates are all held. Assumes nothing.
use Rattle.std.proofs.Common.{sym, ◌∙◌, length-take-le}
use Rattle.lines.specs.LinesLaws.{said_long}
use Rattle.stated.specs.StatedLaws.{said_bad, said_unit, unit_held}
use Rattle.register.specs.Said.{code_said}
use Rattle.register.proofs.reply.reply_line.Goals as goal

pub returns-then-line-gt-LONGEST : goal.returns-then-line-gt-LONGEST
returns-then-line-gt-LONGEST c =
    let line = c.args.line.now in
    rw (said_long code_said line c.if-line-gt-LONGEST.true) c.put_refused.ensures

pub returns-in_default : goal.returns-in_default
returns-in_default c =
    let line = c.args.line.now in
    let short = c.if-line-gt-LONGEST.false in
    let bad = sym c.unit_of-stated.ensures.value ∙ c.in_default.is in
    rw (said_bad code_said line short bad) c.put_refused-in_default.ensures

pub slice_bounds-reply_unit-end : goal.slice_bounds-reply_unit-end
slice_bounds-reply_unit-end c =
    let asked = c.args in
    let short = c.if-line-gt-LONGEST.false in
    let states = sym c.unit_of-stated.ensures.value ∙ c.in-Some.is in
    let held = unit_held asked.line.now states asked.coordinates.now c.unit_of-stated.new.room short c.requires c.unit_of-stated.ensures.room_after in
    held.0

pub slice_bounds-reply_unit-end-2 : goal.slice_bounds-reply_unit-end-2
slice_bounds-reply_unit-end-2 c =
    let asked = c.args in
    let short = c.if-line-gt-LONGEST.false in
    let states = sym c.unit_of-stated.ensures.value ∙ c.in-Some.is in
    let held = unit_held asked.line.now states asked.coordinates.now c.unit_of-stated.new.room short c.requires c.unit_of-stated.ensures.room_after in
    sym (length-take-le c.in-Some.unit.count c.unit_of-stated.new.room held.0)

pub returns : goal.returns
returns c =
    let asked = c.args in
    let short = c.if-line-gt-LONGEST.false in
    let states = sym c.unit_of-stated.ensures.value ∙ c.in-Some.is in
    let held = unit_held asked.line.now states asked.coordinates.now c.unit_of-stated.new.room short c.requires c.unit_of-stated.ensures.room_after in
    rw (said_unit code_said asked.line.now short states, ← held.1) c.reply_unit.ensures
