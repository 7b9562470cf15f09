-- `quick::search::search` meets its contract: no cell of a level before `level` is inside. Assumes nothing.
use borrow.Author.Rules.{rules}
use native.Mathlib.Omega.{arith}
use mathlib.Core.Path.{sym}
use Rattle.quick.specs.Descent.{Levels}
use Rattle.quick.specs.SearchLaws.{levels_begin, levels_found, levels_end}
use Rattle.quick.proofs.search.search.Goals as goal

pub loop-level-init : goal.loop-level-init
loop-level-init c =
    (c.requires.all_in, search rules, levels_begin c.requires.over c.first_level-level.ensures.lower_bound c.first_level-level.ensures.too_wide_before)

pub returns-in-Some : goal.returns-in-Some
returns-in-Some c =
    let levels : Levels c.finest_with-finest.result c.top_of.result = record { coarsest = c.top_of.ensures.0; below = omega (arith, c.top_of.ensures.1, c.finest_with-finest.ensures.0); most = c.finest_with-finest.ensures.1 } in
    sym (levels_found c.requires.over c.loop-level.invariant.2 levels c.top_of.ensures.1 c.in_levels-found.ensures.first c.in-Some.is)

pub returns : goal.returns
returns c =
    sym (levels_end c.requires.over c.loop-level.invariant.2 (omega (arith, c.loop-level-test.false)))
