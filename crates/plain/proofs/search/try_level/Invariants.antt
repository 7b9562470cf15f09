-- `plain::search::try_level` meets its contract: the west sides from `west` on are still to be tried. Assumes nothing.
use Prim.Native.Nat.{◌-◌}
use Rattle.boundary.specs.Listed.{edges_in}
use Rattle.chosen.specs.Chosen.{try_west, try_level}
use Rattle.plain.specs.Turns.{SidesLeft}
use Rattle.plain.proofs.search.try_level.Given as goal

abbrev pub invariant-loop-west : goal.invariant-loop-west
invariant-loop-west l = SidesLeft (try_west l.r (edges_in l.edges) l.level) l.level l.r.east.0 (try_level l.r (edges_in l.edges) l.level) l.west

abbrev pub decreases-loop-west : goal.decreases-loop-west
decreases-loop-west l = l.r.east.0 - l.west
