-- `quick::kept::keep` meets its contract: the edges put behind the others, with those that meet of the ones still to be seen. Assumes nothing.
use Rattle.quick.specs.HalfLaws.{Moved}
use Rattle.quick.proofs.kept.keep.Given as goal

abbrev pub invariant-loop-i : goal.invariant-loop-i
invariant-loop-i l = Moved l.initial.room l.room l.ground l.from l.to l.end l.i
