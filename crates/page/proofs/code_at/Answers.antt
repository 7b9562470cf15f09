-- `page::code_at` meets its contract: a record that is found has its bytes in the page. Assumes nothing.
use Prim.Native.Nat.{◌+◌}
use mathlib.Core.Path.{◌≡◌, ap, sym, ◌∙◌}
use lib.ListN.{take, drop}
use Rattle.std.specs.Prelude.{Option, None, Ok}
use Rattle.page.specs.declared.Record.{Record}
use Rattle.page.specs.Page.{Found, where_found}
use Rattle.page.proofs.PageLaws.{look_within, code_found}
use borrow.Author.Rules.{rules}
use Rattle.page.proofs.code_at.Goals as goal
use Rattle.page.proofs.code_at.Goals.{in_default-via-in-Ok+in_default, in_default-via-in_default}

-- no record is the end
the_end : {f : Found} {o : Option Record} → f ≡ Ok o → o ≡ None → f ≡ Ok None
the_end e k = e ∙ ap (λ (o : Option Record). Ok o) k

pub returns-in_default : goal.returns-in_default
returns-in_default c =
    let told = λ (f : Found). where_found f (take 20 (drop (c.args.offset + 3) c.args.page.now)) in
    elim c.in_default.branch [
      | in_default-via-in-Ok+in_default w ↦ ap told (sym (the_end w.in_default.is (search rules)) ∙ c.look.ensures)
      | in_default-via-in_default w ↦ ap told (sym w.in_default.is ∙ c.look.ensures)
    ]

pub overflow_add-result : goal.overflow_add-result
overflow_add-result c =
    let asked = c.args in
    let within = look_within asked.page.now asked.offset (sym (rw c.in-Ok-Some.field-0-is at c.in-Ok-Some.ensures)) in
    search (rules, within)

pub overflow_add-result-2 : goal.overflow_add-result-2
overflow_add-result-2 c =
    let asked = c.args in
    let within = look_within asked.page.now asked.offset (sym (rw c.in-Ok-Some.field-0-is at c.in-Ok-Some.ensures)) in
    search (rules, within)

pub slice_bounds-result-end-2 : goal.slice_bounds-result-end-2
slice_bounds-result-end-2 c =
    let asked = c.args in
    let within = look_within asked.page.now asked.offset (sym (rw c.in-Ok-Some.field-0-is at c.in-Ok-Some.ensures)) in
    search (rules, within)

pub returns : goal.returns
returns c =
    let asked = c.args in
    code_found asked.page.now asked.offset (sym (rw c.in-Ok-Some.field-0-is at c.in-Ok-Some.ensures))
