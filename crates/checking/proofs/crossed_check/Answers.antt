-- `checking::crossed_check` meets its contract: a pair that is found names corners of the list. Assumes nothing.
use Prim.Native.Nat.{◌<◌}
use native.Mathlib.Omega.{arith}
use mathlib.Core.Path.{sym, ◌∙◌}
use borrow.Author.Rules.{rules}
use Rattle.corners.specs.Corners.{corners_of, corners_length}
use Rattle.crossed.specs.PairPlaces.{pair_within}
use Rattle.checking.proofs.crossed_check.Goals as goal

pub overflow_cast-corner : goal.overflow_cast-corner
overflow_cast-corner c =
    let found = sym c.first_pair.ensures ∙ c.in-Some.is in
    let numbers = c.args.numbers.now in
    let within = pair_within (corners_of numbers) found in
    let low : c.in-Some.first < 1024 = omega (arith, within.0, corners_length numbers, c.requires) in
    search (rules, low)
