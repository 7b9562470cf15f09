-- `quick::kept::odd_at` meets its contract: the count so far, with the turns of the edges from place i on. Assumes nothing.
use Rattle.facts.specs.Tests.{differ}
use Rattle.edge.specs.Edge.{turns}
use Rattle.boundary.specs.Closed.{oddly}
use Rattle.quick.specs.Half.{kept_in}
use Rattle.quick.specs.HalfLaws.{TurnedFrom}
use Rattle.quick.proofs.kept.odd_at.Given as goal

abbrev pub invariant-loop-i : goal.invariant-loop-i
invariant-loop-i l = TurnedFrom l.room (turns l.east l.p l.q) (differ l.initial.odd (oddly (turns l.east l.p l.q) (kept_in l.room l.fn.half.from l.to))) l.to l.odd l.i
