-- `numbers::numbers_at` meets its contract. The loop's invariant is `Counting`, whose laws are in specs/Counting.antt.
-- Assumes nothing.
use borrow.Author.Rules.{rules}
use native.Mathlib.Omega.{arith}
use mathlib.Core.Path.{sym, ◌∙◌}
use Rattle.numbers.specs.Counting.{counting_begin, counting_end, counting_other, counting_bad, counting_more, counting_further}
use Rattle.numbers.proofs.numbers_at.Goals as goal

pub loop-i-init : goal.loop-i-init
loop-i-init c = counting_begin c.args.line.now c.args.at c.args.room.now

pub returns-then-line-i-ne32 : goal.returns-then-line-i-ne32
returns-then-line-i-ne32 c =
    let whole = counting_other c.loop-i.invariant (search rules) c.if-line-i-ne32.true in
    record { value = whole.0; room_after = whole.1 }

pub returns-in_err-value : goal.returns-in_err-value
returns-in_err-value c =
    let bad = sym c.number_at.ensures ∙ c.in_err-value.was in
    let whole = counting_bad c.loop-i.invariant (search rules) c.if-line-i-ne32.false bad in
    record { value = c.from_residual.ensures ∙ whole.0; room_after = whole.1 }

pub loop-i-smaller : goal.loop-i-smaller
loop-i-smaller c =
    let at = sym c.number_at.ensures ∙ c.in_ok-value.was in
    omega (arith, counting_further c.loop-i.invariant at)

pub loop-i-preserved : goal.loop-i-preserved
loop-i-preserved c =
    let at = sym c.number_at.ensures ∙ c.in_ok-value.was in
    rw c.store.ensures (counting_more c.loop-i.invariant (search rules) c.if-line-i-ne32.false at)

pub returns : goal.returns
returns c =
    let whole = counting_end c.loop-i.invariant (search rules) in
    record { value = whole.0; room_after = whole.1 }
