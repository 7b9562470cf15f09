-- `summary::put_places` meets its contract: the lines of the places below `i` are put. Assumes nothing.
use mathlib.Core.Path.{ap, ◌∙◌}
use lib.ListN.{length, get_or}
use borrow.Author.Tests.{eq-eqb, ne_eqb}
use Rattle.room.specs.RoomLaws.{length_put}
use Rattle.summary.specs.SummaryLaws.{listing_begin, listing_active, listing_free, listing_end}
use borrow.Author.Rules.{rules}
use Rattle.summary.proofs.put_places.Goals as goal
use Rattle.summary.proofs.put_places.Goals.{then-account-i-ne0, else-account-i-ne0}

pub loop-i-init : goal.loop-i-init
loop-i-init c =
    let asked = c.args in
    let account = asked.account.now in
    listing_begin account.high account.low account.active asked.out.now asked.at

pub loop-i-preserved : goal.loop-i-preserved
loop-i-preserved c =
    let here = get_or c.args.account.now.active c.loop-i.i 0 in
    elim c.if-account-i-ne0.branch [
      | then-account-i-ne0 w ↦ rw (w.out-is, w.end-is)
          (listing_active c.loop-i.invariant (search rules) (ne_eqb here 0 w.if-account-i-ne0.true) w.put_place-end.ensures)
      | else-account-i-ne0 w ↦ rw (w.out-is, w.end-is)
          (listing_free c.loop-i.invariant (search rules) (eq-eqb here 0 w.if-account-i-ne0.false))
    ]

pub shape_of-out : goal.shape_of-out
shape_of-out c =
    let so = c.loop-i.invariant.filled in
    ap length so.holds ∙ length_put _ _ _

pub returns : goal.returns
returns c = listing_end c.loop-i.invariant (search rules)
