-- `quick::search::in_levels` meets its contract: the ground from the range's start to `west` has been searched. Assumes nothing.
use Prim.Native.Nat.{◌-◌}
use mathlib.Core.Path.{◌≡◌}
use lib.ListN.{length}
use Rattle.boundary.specs.Listed.{boundary_of}
use Rattle.quick.specs.Half.{AllIn}
use Rattle.quick.specs.SearchLaws.{EastTo}
use Rattle.quick.proofs.search.in_levels.Given as goal

abbrev pub invariant-loop-west : goal.invariant-loop-west
invariant-loop-west l = AllIn (boundary_of l.numbers) l.room l.count × (length l.room ≡ length l.initial.room) × EastTo (boundary_of l.numbers) l.sought.finest l.top l.west l.found

abbrev pub decreases-loop-west : goal.decreases-loop-west
decreases-loop-west l = l.to.0 - l.west
