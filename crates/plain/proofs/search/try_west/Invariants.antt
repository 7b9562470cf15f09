-- `plain::search::try_west` meets its contract: the south sides from `south` on are still to be tried. Assumes nothing.
use Prim.Native.Nat.{◌-◌}
use Rattle.boundary.specs.Listed.{edges_in}
use Rattle.chosen.specs.Chosen.{try_south, try_west}
use Rattle.plain.specs.Turns.{SidesLeft}
use Rattle.plain.proofs.search.try_west.Given as goal

abbrev pub invariant-loop-south : goal.invariant-loop-south
invariant-loop-south l = SidesLeft (try_south (edges_in l.edges) l.level l.west.0) l.level l.r.north.0 (try_west l.r (edges_in l.edges) l.level l.west.0) l.south

abbrev pub decreases-loop-south : goal.decreases-loop-south
decreases-loop-south l = l.r.north.0 - l.south
