-- `edge::misses` meets its contract: beyond a side, or all corners on one side of the line; an end strictly within rules out both.
-- Assumes nothing.
use mathlib.Core.Path.{sym, ◌∙◌}
use Rattle.edge.specs.Edge.{misses}
use Rattle.edge.specs.MissesLaws.{misses_end}
use Rattle.edge.proofs.misses.Goals as goal

pub returns-then-beyond : goal.returns-then-beyond
unfolding misses
returns-then-beyond c = rw (sym c.beyond.ensures ∙ c.if-beyond.true)

pub returns-then-end_within : goal.returns-then-end_within
returns-then-end_within c =
    let a = c.args in
    sym (misses_end a.a a.b a.r (sym c.end_within.ensures ∙ c.if-end_within.true))

pub returns : goal.returns
unfolding misses
returns c =
    rw (c.aside.ensures, sym c.beyond.ensures ∙ c.if-beyond.false)
