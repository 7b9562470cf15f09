-- `numbers::word::word_value` meets its contract: at each return the tests that led there say what the word is.
-- Assumes nothing.
use native.Mathlib.Omega.{arith}
use mathlib.Core.Path.{sym, ◌∙◌}
use Rattle.numbers.specs.NumbersLaws.{word_none, word_many, word_zero, word_one, word_digits}
use borrow.Author.Rules.{rules}
use Rattle.numbers.proofs.word.word_value.Goals as goal

pub returns-then-word-lt1 : goal.returns-then-word-lt1
returns-then-word-lt1 c = let asked = c.args in sym (word_none asked.count asked.most asked.word.now c.if-word-lt1.true)

pub returns-then-word-count : goal.returns-then-word-count
returns-then-word-count c = let asked = c.args in sym (word_many asked.count asked.most asked.word.now c.if-word-count.true)

pub returns-then-word-eq1 : goal.returns-then-word-eq1
returns-then-word-eq1 c =
    let asked = c.args in
    c.digits.ensures ∙ sym (word_one asked.count asked.most asked.word.now (search rules) (search rules))

pub returns-then-word-eq48 : goal.returns-then-word-eq48
returns-then-word-eq48 c =
    let asked = c.args in
    sym (word_zero asked.count asked.most asked.word.now (omega arith) c.if-word-eq48.true)

pub returns : goal.returns
returns c =
    let asked = c.args in
    c.digits-2.ensures ∙ sym (word_digits asked.count asked.most asked.word.now (omega arith) (search rules) c.if-word-eq48.false)
