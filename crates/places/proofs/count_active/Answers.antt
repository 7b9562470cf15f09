-- `places::count_active` meets its contract: the places below `i` are counted. Assumes nothing.
use borrow.Author.Rules.{rules}
use borrow.Author.Tests.{eq-eqb, ne_eqb}
use lib.ListN.{get_or}
use Rattle.places.specs.PlacesLaws.{counted_begin, counted_active, counted_free, counted_end}
use Rattle.places.proofs.count_active.Goals as goal
use Rattle.places.proofs.count_active.Goals.{then-active-i-ne0, else-active-i-ne0}

pub loop-i-init : goal.loop-i-init
loop-i-init c = counted_begin

pub loop-i-preserved : goal.loop-i-preserved
loop-i-preserved c =
    let here = get_or c.args.active.now c.loop-i.i 0 in
    elim c.if-active-i-ne0.branch [
      | then-active-i-ne0 w ↦ rw w.count-is (counted_active c.loop-i.invariant (search rules) (ne_eqb here 0 w.if-active-i-ne0.true))
      | else-active-i-ne0 w ↦ rw w.count-is (counted_free c.loop-i.invariant (search rules) (eq-eqb here 0 w.if-active-i-ne0.false))
    ]

pub returns : goal.returns
returns c = counted_end c.loop-i.invariant (search rules)
