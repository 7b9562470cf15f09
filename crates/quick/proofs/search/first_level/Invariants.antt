-- `quick::search::first_level` meets its contract: cells of each level before `level` are too wide. Assumes nothing.
use Prim.Native.Nat.{◌+◌, ◌≤◌}
use Rattle.ground.specs.Levels.{coarsest_level, finest_level}
use Rattle.quick.specs.Descent.{TooWideBefore}
use Rattle.quick.proofs.search.first_level.Given as goal

abbrev pub invariant-loop-level : goal.invariant-loop-level
invariant-loop-level l = ((coarsest_level ≤ l.level) × (l.level ≤ finest_level + 1)) × TooWideBefore l.r l.level
