-- `recording::write::write_line` meets its contract: a line that is too long, one that states no message, and one that states a message,
-- whose text stands in the line. Assumes nothing.
use Rattle.std.proofs.Common.{ap, Some, sym, ◌∙◌}
use borrow.Author.Rules.{part_to_end}
use Rattle.entry.specs.StatedLaws.{stated_message}
use Rattle.recording.specs.RecordedLaws.{said_long, said_bad, said_total, said_message, refuses}
use Rattle.recording.proofs.write.write_line.Goals as goal

pub returns-then-line-gt-LONGEST : goal.returns-then-line-gt-LONGEST
returns-then-line-gt-LONGEST c =
    let asked = c.args in
    let whole = refuses asked.number (said_long asked.line.now c.if-line-gt-LONGEST.true) c.refuse.ensures.put_value c.refuse.ensures.put in
    record { put = whole.0; put_2 = whole.1 }

pub returns-in-Some-Total : goal.returns-in-Some-Total
returns-in-Some-Total c =
    let asked = c.args in
    let total = sym c.message_of-stated.ensures ∙ c.in-Some-Total.is ∙ ap Some (rw c.in-Some-Total.is at c.in-Some-Total.field-0-is) in
    let whole = refuses asked.number (said_total asked.line.now c.if-line-gt-LONGEST.false total) c.refuse-in-Some-Total.ensures.put_value c.refuse-in-Some-Total.ensures.put in
    record { put = whole.0; put_2 = whole.1 }

pub returns-in-None : goal.returns-in-None
returns-in-None c =
    let asked = c.args in
    let bad = sym c.message_of-stated.ensures ∙ c.in-None.is in
    let whole = refuses asked.number (said_bad asked.line.now c.if-line-gt-LONGEST.false bad) c.refuse-in-None.ensures.put_value c.refuse-in-None.ensures.put in
    record { put = whole.0; put_2 = whole.1 }

pub slice_bounds-write_message-count : goal.slice_bounds-write_message-count
slice_bounds-write_message-count c =
    let line = c.args.line.now in
    (stated_message line (sym c.message_of-stated.ensures ∙ c.in-Some-Message.is ∙ ap Some (rw c.in-Some-Message.is at c.in-Some-Message.field-0-is))).within

pub slice_bounds-write_message-start : goal.slice_bounds-write_message-start
slice_bounds-write_message-start c =
    let line = c.args.line.now in
    (stated_message line (sym c.message_of-stated.ensures ∙ c.in-Some-Message.is ∙ ap Some (rw c.in-Some-Message.is at c.in-Some-Message.field-0-is))).within

pub returns-in-Some-Message : goal.returns-in-Some-Message
returns-in-Some-Message c =
    let asked = c.args in
    let states = sym c.message_of-stated.ensures ∙ c.in-Some-Message.is ∙ ap Some (rw c.in-Some-Message.is at c.in-Some-Message.field-0-is) in
    let text = part_to_end asked.line.now c.in-Some-Message.start in
    let said = said_message asked.line.now c.if-line-gt-LONGEST.false states in
    rw (said, ← text) (record { put = c.write_message.ensures.put; put_2 = c.write_message.ensures.put_2 })
