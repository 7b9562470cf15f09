-- `quick::kept::meets` meets its contract: an end strictly within tells it, or else the corners on both sides of the line. Assumes nothing.
use mathlib.Core.Path.{sym, ◌∙◌}
use Rattle.edge.specs.Edge.{misses}
use Rattle.edge.specs.MissesLaws.{misses_end}
use Rattle.quick.proofs.kept.meets.Goals as goal

pub returns-then-end_within : goal.returns-then-end_within
returns-then-end_within c =
    let a = c.args in
    rw (c.if-end_within.true, misses_end a.a a.b a.ground (sym c.end_within.ensures ∙ c.if-end_within.true))

pub returns-else-end_within : goal.returns-else-end_within
unfolding misses
returns-else-end_within c = rw (c.aside.ensures, c.requires)
