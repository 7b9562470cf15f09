-- `numbers::word::word_end` meets its contract. The loop's invariant: the word from the position on ends where the whole word does.
-- Assumes nothing.
use borrow.Author.Rules.{rules}
use native.Mathlib.Omega.{arith}
use mathlib.Core.Path.{ap, ◌∙◌}
use Rattle.std.proofs.Common.{inl, inr}
use Rattle.std.proofs.Math.Nat.{max-eq_left, max-eq_right}
use Rattle.facts.specs.Numbers.{either_way}
use lib.ListN.{length}
use Rattle.numbers.specs.NumbersLaws.{word_end_lem, word_space, word_more}
use Rattle.numbers.proofs.word.word_end.Goals as goal

pub returns-then-line-i-eq32 : goal.returns-then-line-i-eq32
returns-then-line-i-eq32 c =
    let i = c.loop-i.i in
    let line = c.args.line.now in
    omega (arith, c.loop-i.invariant, ap length (word_space line i (search rules) c.if-line-i-eq32.true))

pub loop-i-preserved : goal.loop-i-preserved
loop-i-preserved c =
    let i = c.loop-i.i in
    let line = c.args.line.now in
    c.loop-i.invariant ∙ word_more line i (search rules) c.if-line-i-eq32.false

pub returns : goal.returns
returns c =
    let at = c.args.at in
    let line = c.args.line.now in
    let i = c.loop-i.i in
    let here = ap length (word_end_lem line i (search rules)) in
    elim (either_way at (length line)) [
      | inl h ↦
          let far = c.max.ensures ∙ max-eq_right h in
          let stops = c.loop-i.auto.i-end h in
          omega (arith, far, stops, here, c.loop-i.invariant, c.loop-i-test.false)
      | inr h ↦
          let near = c.max.ensures ∙ max-eq_left (omega (arith, h)) in
          omega (arith, near, ap length (word_end_lem line at (search rules)))
    ]
