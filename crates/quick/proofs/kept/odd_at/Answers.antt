-- `quick::kept::odd_at` meets its contract: the count so far, with the turns of the edges from place i on. Assumes nothing.
use Rattle.quick.specs.HalfLaws.{odd_again}
use Rattle.quick.proofs.kept.odd_at.Goals as goal

pub loop-i-preserved : goal.loop-i-preserved
loop-i-preserved c =
    odd_again c.loop-i.invariant c.loop-i-test.true c.turns-odd.ensures c.edge_at-e.ensures
