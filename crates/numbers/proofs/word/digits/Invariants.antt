-- `numbers::word::digits` meets its contract. The loop's invariant: what is left of the word, after the value so far, answers as the whole word does.
-- Assumes nothing.
use Prim.Native.Nat.{◌≤◌}
use mathlib.Core.Path.{◌≡◌}
use lib.ListN.{drop}
use Rattle.numbers.specs.Numbers.{digits_after}
use Rattle.numbers.proofs.word.digits.Given as goal

abbrev pub invariant-loop-byte : goal.invariant-loop-byte
invariant-loop-byte l = (l.value ≤ l.most) × (digits_after l.most 0 l.word ≡ digits_after l.most l.value (drop l.byte-index l.word))
