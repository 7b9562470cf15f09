-- `ending::scale::scale_of` meets its contract: no level finer than the one tried is the scale. Assumes nothing.
use Rattle.ending.specs.Scaling.{Tried}
use Rattle.ending.proofs.scale.scale_of.Given as goal

abbrev pub invariant-loop-level : goal.invariant-loop-level
invariant-loop-level l = Tried l.span l.level
