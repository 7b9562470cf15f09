-- `crossed::search::search` meets its contract: edges before the place are tried, and later ones before the other passed. Assumes nothing.
use Prim.Native.Nat.{◌-◌, ◌/◌}
use mathlib.Core.Path.{◌≡◌}
use lib.ListN.{length}
use Rattle.crossed.specs.Searching.{Before, Between}
use Rattle.crossed.proofs.search.search.Given as goal

abbrev pub invariant-loop-j : goal.invariant-loop-j
invariant-loop-j l = Between l.numbers l.i l.from

abbrev pub decreases-loop-j : goal.decreases-loop-j
decreases-loop-j l = length l.numbers / 2 - l.from

abbrev pub invariant-edges : goal.invariant-edges
invariant-edges l = Before l.numbers l.near l.run l.i × (length l.near ≡ length l.initial.near)

abbrev pub decreases-edges : goal.decreases-edges
decreases-edges l = length l.numbers / 2 - l.i
