-- `quick::search::search` meets its contract: no cell of a level before `level` is inside. Assumes nothing.
use Prim.Native.Nat.{◌+◌, ◌-◌}
use mathlib.Core.Path.{◌≡◌}
use lib.ListN.{length}
use Rattle.ground.specs.Levels.{finest_level}
use Rattle.boundary.specs.Listed.{boundary_of}
use Rattle.quick.specs.Half.{AllIn}
use Rattle.quick.specs.Descent.{NoneCoarser}
use Rattle.quick.proofs.search.search.Given as goal

abbrev pub invariant-loop-level : goal.invariant-loop-level
invariant-loop-level l = AllIn (boundary_of l.numbers) l.room l.count × (length l.room ≡ length l.initial.room) × NoneCoarser (boundary_of l.numbers) l.level

abbrev pub decreases-loop-level : goal.decreases-loop-level
decreases-loop-level l = finest_level + 1 - l.level
