-- `letters::spell` meets its contract: the letters from place `i` on stand, and `rest` is still to be spelled before them.
-- Assumes nothing.
use lib.ListN.{length}
use Rattle.letters.specs.Letters.{letters, Spelling}
use Rattle.letters.proofs.spell.Given as goal

abbrev pub invariant-loop-i : goal.invariant-loop-i
invariant-loop-i l = Spelling letters (length l.initial.room) l.number l.room l.i l.rest
