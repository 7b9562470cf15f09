-- `crossed::leap::leap_rows` meets its contract: those before the loop's place are apart. Assumes nothing.
use Prim.Native.Nat.{◌-◌, ◌/◌, ◌≤◌}
use lib.ListN.{length}
use Rattle.boundary.specs.Listed.{edge_from}
use Rattle.crossed.specs.Leaps.{Skipped}
use Rattle.crossed.proofs.leap.leap_rows.Given as goal

abbrev pub invariant-loop-j : goal.invariant-loop-j
invariant-loop-j l = (l.from ≤ l.j) × Skipped l.numbers (edge_from l.numbers l.i) l.from l.j

abbrev pub decreases-loop-j : goal.decreases-loop-j
decreases-loop-j l = length l.numbers / 2 - l.j
