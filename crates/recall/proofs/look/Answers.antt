-- `recall::look` meets its contract: what the slot of the code has is handed on. Assumes nothing.
use Rattle.std.proofs.Common.{◌≡◌, ℕ, List, get_or, ap, ◌∙◌}
use Rattle.page.specs.Known.{code_by, look_with}
use Rattle.recall.specs.Recall.{empty_slot, found_by, slot_of, slot_at}
use Rattle.recall.proofs.look.Goals as goal

pub returns : goal.returns
returns c =
    let asked = c.args in
    let page = asked.page.now in
    let offset = asked.offset in
    let same : c.slot_of.result ≡ slot_at page offset = c.slot_of.ensures.value ∙ ap slot_of c.text_at.ensures in
    c.look_by.ensures
    ∙ ap (λ (t : List ℕ). look_with (code_by t (get_or asked.slots.now c.slot_of.result empty_slot).code) page offset) c.earlier_at.ensures
    ∙ ap (λ (s : ℕ). found_by (get_or asked.slots.now s empty_slot) page offset) same
