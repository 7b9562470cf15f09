-- `crossed::leap::scan` meets its contract: those before the loop's place are apart. Assumes nothing.
use Prim.Native.Nat.{◌≤◌}
use Rattle.edge.specs.Edge.{edge}
use Rattle.crossed.specs.Leaps.{Skipped}
use Rattle.crossed.proofs.leap.scan.Given as goal

abbrev pub invariant-loop-j : goal.invariant-loop-j
invariant-loop-j l = (l.from ≤ l.j) × Skipped l.numbers (edge l.a l.b) l.from l.j
