-- `numbers::word::word_end` meets its contract. The loop's invariant: the word from the position on ends where the whole word does.
-- Assumes nothing.
use mathlib.Core.Path.{◌≡◌}
use Rattle.numbers.specs.Numbers.{word_end}
use Rattle.numbers.proofs.word.word_end.Given as goal

abbrev pub invariant-loop-i : goal.invariant-loop-i
invariant-loop-i l = word_end l.line l.at ≡ word_end l.line l.i
