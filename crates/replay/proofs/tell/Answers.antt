-- `replay::tell` meets its contract: the output has room for any summary. Assumes nothing.
use native.Mathlib.Omega.{arith}
use Rattle.output.specs.Written.{starts_put}
use Rattle.summary.specs.SummaryLaws.{summary_short}
use Rattle.replay.proofs.tell.Goals as goal

pub returns : goal.returns
returns c =
    rw (← c.replay-replayed.ensures) (starts_put c.put_summary.ensures (omega (arith, c.requires, summary_short c.replay-replayed.result)))
