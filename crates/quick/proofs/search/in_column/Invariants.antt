-- `quick::search::in_column` meets its contract: the ground from the first south side up to `south` has been searched. Assumes nothing.
use Prim.Native.Nat.{◌-◌}
use mathlib.Core.Path.{◌≡◌}
use lib.ListN.{length}
use Rattle.boundary.specs.Listed.{boundary_of}
use Rattle.quick.specs.Half.{AllIn}
use Rattle.quick.specs.SearchLaws.{UpTo}
use Rattle.quick.proofs.search.in_column.Given as goal

abbrev pub invariant-loop-south : goal.invariant-loop-south
invariant-loop-south l = AllIn (boundary_of l.numbers) l.room l.count
    × (length l.room ≡ length l.initial.room)
    × UpTo (boundary_of l.numbers) l.sought.finest l.top l.west l.east l.initial.south l.south l.initial.found l.found

abbrev pub decreases-loop-south : goal.decreases-loop-south
decreases-loop-south l = l.to.0 - l.south
