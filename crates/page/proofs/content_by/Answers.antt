-- `page::content_by` meets its contract: no number, no code, or a record. Assumes nothing.
use native.Mathlib.Omega.{arith}
use mathlib.Core.Path.{◌≡◌, sym, ◌∙◌}
use Rattle.std.specs.Prelude.{Some}
use Rattle.page.specs.Known.{code_by}
use Rattle.page.proofs.PageLaws.{content_none, content_read}
use Rattle.page.proofs.content_by.Goals as goal

pub returns-then-number-eq0 : goal.returns-then-number-eq0
returns-then-number-eq0 c =
    let reads = code_by c.args.earlier.now c.args.known in
    sym (content_none reads c.args.kind c.args.stretch.now c.requires (sym c.number_in-number.ensures ∙ c.if-number-eq0.true))

pub returns : goal.returns
returns c =
    let some = c.if-number-eq0.false in
    let reads = code_by c.args.earlier.now c.args.known in
    let read : c.code_by.result ≡ Some c.in_ok-code.code = grind (arith, c.ok_or.ensures.value, c.in_ok-code.was) in
    rw c.number_in-number.ensures
    (sym (content_read reads c.args.kind c.args.stretch.now c.requires (λ e. some (c.number_in-number.ensures ∙ e)) (sym c.code_by.ensures ∙ read)))
