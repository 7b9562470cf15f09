-- `recall::note` meets its contract: the slot of the code has the record. Assumes nothing.
use Rattle.std.proofs.Common.{◌≡◌, ℕ, set, ap, ◌∙◌}
use Rattle.recall.specs.Recall.{slot_by, after_of, slot_of, slot_at}
use Rattle.recall.proofs.note.Goals as goal

pub returns : goal.returns
returns c =
    let asked = c.args in
    let same : c.slot_of.result ≡ slot_at asked.page.now asked.offset = c.slot_of.ensures.value ∙ ap slot_of c.text_at.ensures in
    ap (λ (s : ℕ). set asked.slots.now s (slot_by (after_of asked.offset) asked.code)) same
