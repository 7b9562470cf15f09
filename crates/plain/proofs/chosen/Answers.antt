-- `plain::chosen` meets its contract: the levels from `level` on are still to be tried. Assumes nothing.
use native.Mathlib.Omega.{arith}
use mathlib.Core.Path.{sym, ◌∙◌}
use Rattle.boundary.specs.Listed.{edges_in}
use Rattle.chosen.specs.Chosen.{try_level, choose}
use Rattle.plain.specs.Turns.{levels_begin, levels_found, levels_again, levels_end}
use Rattle.plain.proofs.chosen.Goals as goal

pub loop-level-init : goal.loop-level-init
unfolding choose
loop-level-init c = levels_begin (try_level c.args.r (edges_in c.args.edges.now))

pub try_level-tried-requires : goal.try_level-tried-requires
try_level-tried-requires c =
    record { over = c.requires; level = record { coarsest = c.loop-level.invariant.least; finest = omega (arith, c.loop-level-test.true) } }

pub returns-in-Some : goal.returns-in-Some
returns-in-Some c =
    sym (levels_found c.loop-level.invariant (omega (arith, c.loop-level-test.true)) (sym c.try_level-tried.ensures ∙ c.in-Some.is))

pub loop-level-preserved : goal.loop-level-preserved
loop-level-preserved c =
    levels_again c.loop-level.invariant (omega (arith, c.loop-level-test.true)) (sym c.try_level-tried.ensures ∙ c.in_default.is)

pub returns : goal.returns
returns c = sym (levels_end c.loop-level.invariant (omega (arith, c.loop-level-test.false)))
