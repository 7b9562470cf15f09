-- `quick::kept::first_met` meets its contract: those before place i miss. Assumes nothing.
use Rattle.quick.specs.Half.{MissedTo}
use Rattle.quick.proofs.kept.first_met.Given as goal

abbrev pub invariant-loop-i : goal.invariant-loop-i
invariant-loop-i l = MissedTo l.room l.ground l.fn.half.first l.i
