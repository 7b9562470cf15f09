-- `crossed::meeting::start_from` meets its contract: no edge before the loop's place has a length. Assumes nothing.
use Prim.Native.Nat.{ℕ}
use mathlib.Core.Path.{◌≡◌}
use Rattle.crossed.specs.Meeting.{start_from}
use Rattle.crossed.proofs.meeting.start_from.Given as goal

abbrev pub invariant-loop-i : goal.invariant-loop-i
invariant-loop-i l = (none : ℕ) → start_from l.numbers l.from none ≡ start_from l.numbers l.i none
