-- `crossed::run::course_end` meets its contract: every edge before the loop's place goes on the course. Assumes nothing.
use Prim.Native.Nat.{◌/◌, min}
use lib.ListN.{length}
use Rattle.crossed.specs.Runs.{Going}
use Rattle.crossed.proofs.run.course_end.Given as goal

abbrev pub invariant-loop-i : goal.invariant-loop-i
invariant-loop-i l = Going l.numbers l.course l.from (min (length l.numbers / 2) l.i)
