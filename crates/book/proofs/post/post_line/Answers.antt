-- `book::post::post_line` meets its contract: a line that is too long, one that states a message, whose text stands in the line and whose
-- change does what processing does, one that asks for the total, and one not of this form. Assumes nothing.
use Rattle.std.proofs.Common.{Some, ℕ, List, sym, ap, ◌∙◌}
use borrow.Author.Rules.{part_to_end}
use Rattle.entitlements.specs.Entitlements.{Done, processing}
use Rattle.entry.specs.StatedLaws.{stated_message}
use Rattle.change.specs.declared.Change.{Change}
use Rattle.change.specs.Change.{makes}
use Rattle.change.specs.ChangeLaws.{change_processing}
use Rattle.book.specs.SaidLaws.{posting_long, posting_bad, posting_total, posting_message, leaves}
use Rattle.book.proofs.post.post_line.Goals as goal

pub returns-then-line-gt-LONGEST : goal.returns-then-line-gt-LONGEST
returns-then-line-gt-LONGEST c =
    let asked = c.args in
    let account = asked.account.now in
    let long = c.if-line-gt-LONGEST.true in
    let whole = leaves asked.number account asked.line.now (posting_long processing account asked.line.now long) c.refuse.ensures.step_value c.refuse.ensures.put in
    record { steps_by = whole.0; put = whole.1 }

pub slice_bounds-change_of-count : goal.slice_bounds-change_of-count
slice_bounds-change_of-count c =
    let line = c.args.line.now in
    (stated_message line (sym c.message_of-stated.ensures ∙ c.in-Some-Message.is ∙ ap Some (rw c.in-Some-Message.is at c.in-Some-Message.field-0-is))).within

pub slice_bounds-change_of-start : goal.slice_bounds-change_of-start
slice_bounds-change_of-start c =
    let line = c.args.line.now in
    (stated_message line (sym c.message_of-stated.ensures ∙ c.in-Some-Message.is ∙ ap Some (rw c.in-Some-Message.is at c.in-Some-Message.field-0-is))).within

pub returns-in-Some-Message : goal.returns-in-Some-Message
returns-in-Some-Message c =
    let asked = c.args in
    let account = asked.account.now in
    let line = asked.line.now in
    let short = c.if-line-gt-LONGEST.false in
    let states = sym c.message_of-stated.ensures ∙ c.in-Some-Message.is ∙ ap Some (rw c.in-Some-Message.is at c.in-Some-Message.field-0-is) in
    let did =
    ap (λ (d : Change). makes d account) c.change_of-change.ensures
    ∙ change_processing c.in-Some-Message.kind account _ c.in-Some-Message.message
    ∙ ap (λ (text : List ℕ). processing c.in-Some-Message.kind account text c.in-Some-Message.message) (part_to_end line c.in-Some-Message.start) in
    rw (posting_message processing account line short states)
    (record { steps_by = ap (λ (d : Done). d.account) did; put = rw (← did) c.put_answer-put.ensures })

pub returns-in-Some-Total : goal.returns-in-Some-Total
returns-in-Some-Total c =
    let asked = c.args in
    let account = asked.account.now in
    let total = sym c.message_of-stated.ensures ∙ c.in-Some-Total.is ∙ ap Some (rw c.in-Some-Total.is at c.in-Some-Total.field-0-is) in
    let whole = leaves asked.number account asked.line.now (posting_total processing account asked.line.now c.if-line-gt-LONGEST.false total) c.tell.ensures.step_value c.tell.ensures.put in
    record { steps_by = whole.0; put = whole.1 }

pub returns-in-None : goal.returns-in-None
returns-in-None c =
    let asked = c.args in
    let account = asked.account.now in
    let bad = sym c.message_of-stated.ensures ∙ c.in-None.is in
    let whole = leaves asked.number account asked.line.now (posting_bad processing account asked.line.now c.if-line-gt-LONGEST.false bad) c.refuse-in-None.ensures.step_value c.refuse-in-None.ensures.put in
    record { steps_by = whole.0; put = whole.1 }
