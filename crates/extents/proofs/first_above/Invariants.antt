-- `extents::first_above` meets its contract: no corner before `i` is above its range. Assumes nothing.
use Rattle.facts.specs.Places.{NoneBefore}
use Rattle.corners.specs.Corners.{corners_of}
use Rattle.unit.specs.Unit.{above_range}
use Rattle.extents.proofs.first_above.Given as goal

abbrev pub invariant-loop-i : goal.invariant-loop-i
invariant-loop-i l = NoneBefore above_range (corners_of l.numbers) l.i
