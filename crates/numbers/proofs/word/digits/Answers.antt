-- `numbers::word::digits` meets its contract. The loop's invariant: what is left of the word, after the value so far, answers as the whole word does.
-- Assumes nothing.
use borrow.Author.Rules.{rules}
use borrow.Author.Tests.{ltb-true, ltb-false}
use Prim.Native.Nat.{◌+◌, ◌*◌, ◌-◌}
use mathlib.Core.Path.{refl, sym, ◌∙◌}
use lib.ListN.{drop, get_or}
use Rattle.std.proofs.Common.{inl, inr}
use Rattle.std.specs.Char.{IsNotAsciiDigit}
use Rattle.numbers.specs.NumbersLaws.{digits_end, digits_below, digits_above, digits_more, digits_over}
use Rattle.numbers.proofs.word.digits.Goals as goal

pub loop-byte-init : goal.loop-byte-init
loop-byte-init c = (search rules, refl)

pub returns-then-not-is_ascii_digit : goal.returns-then-not-is_ascii_digit
returns-then-not-is_ascii_digit c =
    let asked = c.args in
    let word = asked.word.now in
    let i = c.loop-byte.byte-index in
    let value = c.loop-byte.value in
    let other : IsNotAsciiDigit (get_or word i 0) = search rules in
    elim other [
      | inl h ↦ sym (c.loop-byte.invariant.1 ∙ digits_below asked.most word i value (search rules) h)
      | inr h ↦ sym (c.loop-byte.invariant.1 ∙ digits_above asked.most word i value (search rules) h)
    ]

pub returns-then-above : goal.returns-then-above
returns-then-above c =
    let asked = c.args in
    let word = asked.word.now in
    let i = c.loop-byte.byte-index in
    let value = c.loop-byte.value in
    let over = ltb-true asked.most (10 * value + (get_or word i 0 - 48)) (sym c.above.ensures ∙ c.if-above.true) in
    sym
    (c.loop-byte.invariant.1
    ∙ digits_more asked.most word i value (search rules) (search rules) (search rules)
    ∙ digits_over asked.most (10 * value + (get_or word i 0 - 48)) (drop (i + 1) word) over)

pub overflow_mul-value : goal.overflow_mul-value
overflow_mul-value c =
    let asked = c.args in
    let i = c.loop-byte.byte-index in
    let value = c.loop-byte.value in
    let under = ltb-false asked.most (10 * value + (get_or asked.word.now i 0 - 48)) (sym c.above.ensures ∙ c.if-above.false) in
    search rules

pub overflow_add-value : goal.overflow_add-value
overflow_add-value c =
    let asked = c.args in
    let i = c.loop-byte.byte-index in
    let value = c.loop-byte.value in
    let under = ltb-false asked.most (10 * value + (get_or asked.word.now i 0 - 48)) (sym c.above.ensures ∙ c.if-above.false) in
    search rules

pub loop-byte-preserved : goal.loop-byte-preserved
loop-byte-preserved c =
    let asked = c.args in
    let word = asked.word.now in
    let i = c.loop-byte.byte-index in
    let value = c.loop-byte.value in
    let under = ltb-false asked.most (10 * value + (get_or word i 0 - 48)) (sym c.above.ensures ∙ c.if-above.false) in (
      under,
      c.loop-byte.invariant.1
          ∙ digits_more asked.most word i value (search rules) (search rules) (search rules),
    )

pub returns : goal.returns
returns c =
    let asked = c.args in
    let i = c.loop-byte.byte-index in
    let value = c.loop-byte.value in
    sym (c.loop-byte.invariant.1 ∙ digits_end asked.most asked.word.now i value (search rules) (search rules))
