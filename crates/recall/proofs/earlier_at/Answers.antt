-- `recall::earlier_at` meets its contract: an empty slot, and one that has a record. Assumes nothing.
use Rattle.std.proofs.Common.{sym, ◌∙◌}
use Rattle.recall.specs.RecallLaws.{earlier_none, earlier_some}
use Rattle.recall.proofs.earlier_at.Goals as goal

pub returns-then-after-eq0 : goal.returns-then-after-eq0
returns-then-after-eq0 c =
    let asked = c.args in
    sym (earlier_none asked.page.now asked.after c.if-after-eq0.true)

pub returns : goal.returns
returns c =
    let asked = c.args in
    c.text_at.ensures ∙ sym (earlier_some asked.page.now asked.after c.if-after-eq0.false)
