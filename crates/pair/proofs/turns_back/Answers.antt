-- `pair::turns_back` meets its contract: what goes on in a direction does not turn back on one line. Assumes nothing.
use mathlib.Core.Path.{sym, ◌∙◌}
use Rattle.pair.specs.PairLaws.{up, across}
use Rattle.pair.specs.MoreLaws.{onward, line_onward}
use Rattle.pair.proofs.turns_back.Goals as goal
use Rattle.pair.proofs.turns_back.Goals.{then-goes_on-via-then-goes_on, then-goes_on-via-else-goes_on+then-goes_on-2}

pub returns-then-goes_on : goal.returns-then-goes_on
returns-then-goes_on c =
    let a = c.args in
    elim c.then-goes_on.branch [
      | then-goes_on-via-then-goes_on w ↦ sym (line_onward a.a a.b a.c up (onward a.a.lat.0 a.b.lat.0 a.c.lat.0 (sym c.goes_on.ensures ∙ w.if-goes_on.true)))
      | then-goes_on-via-else-goes_on+then-goes_on-2 w ↦ sym
          (line_onward a.a a.b a.c across (onward a.a.lon.0 a.b.lon.0 a.c.lon.0 (sym w.goes_on-else-goes_on.ensures ∙ w.if-goes_on-2.true)))
    ]
