-- `boundary::asked::odd_count` meets its contract: the count so far, with that of the edges left, is the whole. Assumes nothing.
use mathlib.Core.Path.{ap, ap₂, ◌∙◌}
use Rattle.edge.specs.Edge.{edge, crosses_east}
use Rattle.boundary.specs.ListedLaws.{odd_begin, odd_again, odd_end}
use Rattle.boundary.proofs.asked.odd_count.Goals as goal

pub loop-i-init : goal.loop-i-init
loop-i-init c = odd_begin

pub loop-i-preserved : goal.loop-i-preserved
loop-i-preserved c =
    odd_again c.loop-i.invariant c.loop-i-test.true
    (c.crosses_east-odd.ensures ∙ ap (crosses_east c.args.p) (ap₂ edge c.corner.ensures c.corner-in-loop-i.ensures))

pub returns : goal.returns
returns c = odd_end c.loop-i.invariant c.loop-i-test.false
