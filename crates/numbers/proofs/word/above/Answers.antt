-- `numbers::word::above` meets its contract: below a tenth no digit is too much, above it each is, and at it the last digit says.
-- Assumes nothing.
use native.Mathlib.Omega.{arith}
use Prim.Native.Nat.{◌+◌, ◌*◌, ◌%◌}
use mathlib.Core.Path.{sym}
use borrow.Author.Tests.{lt-ltb, le-ltb, ltb-true}
use Rattle.facts.specs.Tests.{same_truth}
use Rattle.numbers.proofs.word.above.Goals as goal

pub returns-then-value-tenth : goal.returns-then-value-tenth
returns-then-value-tenth c =
    let asked = c.args in
    sym (le-ltb asked.most (10 * asked.value + asked.digit) (omega (arith, c.requires, c.if-value-tenth.true)))

pub returns-then-value-tenth-2 : goal.returns-then-value-tenth-2
returns-then-value-tenth-2 c =
    let asked = c.args in
    sym (lt-ltb asked.most (10 * asked.value + asked.digit) (omega (arith, c.if-value-tenth-2.true)))

pub returns : goal.returns
returns c =
    let asked = c.args in
    let all = 10 * asked.value + asked.digit in
    same_truth
    (λ e. lt-ltb asked.most all (omega (arith, c.if-value-tenth.false, c.if-value-tenth-2.false, ltb-true (asked.most % 10) asked.digit e)))
    (λ e. lt-ltb (asked.most % 10) asked.digit (omega (arith, c.if-value-tenth.false, c.if-value-tenth-2.false, ltb-true asked.most all e)))
