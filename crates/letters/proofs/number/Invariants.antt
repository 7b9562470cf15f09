-- `letters::number` meets its contract: the sum is what the letters before `byte` spell. Assumes nothing.
use Rattle.letters.specs.Letters.{letters, Summing}
use Rattle.letters.proofs.number.Given as goal

abbrev pub invariant-loop-byte : goal.invariant-loop-byte
invariant-loop-byte l = Summing letters l.text l.byte-index l.sum
