-- `recall::text_at` meets its contract: a page that has not a record's bytes there, and one that has. Assumes nothing.
use Rattle.std.proofs.Common.{◌≡◌, ℕ, ◌+◌, ◌-◌, take, drop, sym, ap, ◌∙◌, arith}
use Rattle.recall.specs.RecallLaws.{text_none, text_some}
use Rattle.recall.proofs.text_at.Goals as goal

pub returns-then-page-lt-RECORD : goal.returns-then-page-lt-RECORD
returns-then-page-lt-RECORD c =
    let asked = c.args in
    sym (text_none asked.page.now asked.offset (omega (arith, c.if-page-lt-RECORD.true)))

pub returns-then-page-offset : goal.returns-then-page-offset
returns-then-page-offset c =
    let asked = c.args in
    sym (text_none asked.page.now asked.offset (omega (arith, c.if-page-lt-RECORD.false, c.if-page-offset.true)))

pub returns : goal.returns
returns c =
    let asked = c.args in
    let offset = asked.offset in
    let twenty : offset + 23 - (offset + 3) ≡ 20 = omega arith in
    ap (λ (n : ℕ). take n (drop (offset + 3) asked.page.now)) twenty
    ∙ sym (text_some asked.page.now offset (omega (arith, c.if-page-lt-RECORD.false, c.if-page-offset.false)))
