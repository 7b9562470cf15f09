-- `page::write_record` meets its contract, case by case: 41, 42, 51, or the record is put. Assumes nothing.
use Prim.Native.Nat.{◌≤◌}
use native.Mathlib.Omega.{arith}
use borrow.Author.Rules.{rules}
use mathlib.Core.Path.{◌≡◌, sym, ◌∙◌}
use Rattle.std.specs.Prelude.{Some, None}
use Rattle.halves.specs.declared.Halves.{Halves}
use lib.ListN.{length}
use Rattle.halves.specs.HalvesLaws.{code_read}
use Rattle.page.specs.Page.{record_length}
use Rattle.page.proofs.PageLaws.{code_twenty, writing_zero, writing_large, writing_refused, writing_short, writing_put}
use Rattle.page.proofs.write_record.Goals as goal

pub returns-then-number-eq0 : goal.returns-then-number-eq0
returns-then-number-eq0 c =
    let asked = c.args in
    let kind = asked.kind in
    let text = asked.text.now in
    let stretch = asked.stretch.now in
    sym (writing_zero kind text asked.number stretch c.if-number-eq0.true)

pub returns-then-number-gt-LARGEST : goal.returns-then-number-gt-LARGEST
returns-then-number-gt-LARGEST c =
    let asked = c.args in
    let kind = asked.kind in
    let text = asked.text.now in
    let stretch = asked.stretch.now in
    sym (writing_large kind text asked.number stretch c.if-number-gt-LARGEST.true)

pub returns-then-is_none : goal.returns-then-is_none
returns-then-is_none c =
    let asked = c.args in
    let refused : c.code_in.result ≡ None = grind (arith, c.if-is_none.ensures) in
    sym (writing_refused asked.kind asked.text.now asked.number asked.stretch.now c.if-number-eq0.false c.if-number-gt-LARGEST.false (sym c.code_in.ensures ∙ refused))

pub returns-then-stretch-lt-RECORD : goal.returns-then-stretch-lt-RECORD
returns-then-stretch-lt-RECORD c =
    let asked = c.args in
    let read : (h : Halves) × (c.code_in.result ≡ Some h) = search (rules, c.if-is_none.ensures) in
    sym (writing_short asked.kind asked.text.now asked.number asked.stretch.now c.if-number-eq0.false c.if-number-gt-LARGEST.false (sym c.code_in.ensures ∙ read.1) (omega (arith, c.if-stretch-lt-RECORD.true)))

pub returns : goal.returns
returns c =
    let asked = c.args in
    let text = asked.text.now in
    let found : (h : Halves) × (c.code_in.result ≡ Some h) = search (rules, c.if-is_none.ensures) in
    let read = sym c.code_in.ensures ∙ found.1 in
    let twenty = code_twenty text (code_read text read).0 in
    let long : record_length ≤ length asked.stretch.now = omega (arith, c.if-stretch-lt-RECORD.false) in
    sym (writing_put asked.kind text asked.number asked.stretch.now c.if-number-eq0.false c.if-number-gt-LARGEST.false read twenty long c.put_record.ensures)
