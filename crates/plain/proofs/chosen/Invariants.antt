-- `plain::chosen` meets its contract: the levels from `level` on are still to be tried. Assumes nothing.
use Rattle.boundary.specs.Listed.{edges_in}
use Rattle.chosen.specs.Chosen.{try_level, choose}
use Rattle.plain.specs.Turns.{LevelsLeft}
use Rattle.plain.proofs.chosen.Given as goal

abbrev pub invariant-loop-level : goal.invariant-loop-level
invariant-loop-level l = LevelsLeft (try_level l.r (edges_in l.edges)) (choose l.r (edges_in l.edges)) l.level
