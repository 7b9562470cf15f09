-- `extents::extremes` meets its contract: the rectangle holds the corners behind the loop. Assumes nothing.
use Prim.Native.Nat.{◌+◌}
use mathlib.Core.Path.{ap, sym, subst}
use borrow.Author.Rules.{rules}
use Rattle.ground.specs.declared.Rectangle.{Rectangle}
use Rattle.corners.specs.Corners.{no_corners}
use Rattle.unit.specs.Extents.{extremes_of}
use Rattle.unit.specs.Widening.{Reached, reach_begin, reach_again, reach_end}
use Rattle.extents.proofs.extremes.Goals as goal

pub returns-then-count-eq0 : goal.returns-then-count-eq0
unfolding extremes_of
returns-then-count-eq0 c = sym (ap extremes_of (no_corners c.args.numbers.now c.if-count-eq0.true))

pub loop-i-init : goal.loop-i-init
loop-i-init c =
    reach_begin c.args.numbers.now c.corner-first.result (search rules) c.corner-first.ensures

pub loop-i-preserved : goal.loop-i-preserved
loop-i-preserved c =
    let numbers = c.args.numbers.now in
    subst (λ (r : Rectangle). Reached numbers r (c.loop-i.i + 1)) (sym c.widened-r.ensures)
    (reach_again numbers c.corner.result c.loop-i.invariant (search rules) c.corner.ensures)

pub returns : goal.returns
returns c = reach_end c.args.numbers.now c.loop-i.invariant (search rules)
