-- `quick::search::in_levels` meets its contract: the ground from the range's start to `west` has been searched. Assumes nothing.
use borrow.Author.Rules.{rules}
use Prim.Native.Nat.{◌≤◌}
use native.Mathlib.Omega.{arith}
use Rattle.ground.specs.Levels.{lon, lon_end}
use Rattle.ground.proofs.CellsLaws.{low_below_high}
use Rattle.quick.specs.SearchLaws.{top_level, east_most, east_begin, east_past, east_again, east_end}
use Rattle.quick.proofs.search.in_levels.Goals as goal

pub loop-west-init : goal.loop-west-init
loop-west-init c =
    (c.requires.all_in, search rules, east_begin c.requires.seeks.over c.requires.levels c.low_side-west.ensures)

pub overflow_cast-east : goal.overflow_cast-east
overflow_cast-east c =
    let next : c.high_side-east.result ≤ lon_end = omega (arith, c.high_side-east.ensures, east_most c.requires.seeks.over c.requires.levels c.loop-west.invariant.2.is c.loop-west-test.true) in
    omega (arith, next)

pub in_column-found-requires-clause-column : goal.in_column-found-requires-clause-column
in_column-found-requires-clause-column c =
    let next : c.high_side-east.result ≤ lon_end = omega (arith, c.high_side-east.ensures, east_most c.requires.seeks.over c.requires.levels c.loop-west.invariant.2.is c.loop-west-test.true) in
    record { lon = record { low = c.loop-west.invariant.2.is; high = c.high_side-east.ensures }; east_end = next }

pub in_column-found-requires-clause-past : goal.in_column-found-requires-clause-past
in_column-found-requires-clause-past c =
    east_past c.requires.seeks.over c.requires.levels c.loop-west.invariant.2 (lon c.high_side-east.result)

pub loop-west-smaller : goal.loop-west-smaller
loop-west-smaller c =
    omega (arith, c.high_side-east.ensures, low_below_high c.args.top c.loop-west.west (top_level c.requires.levels), c.loop-west-test.true)

pub loop-west-preserved : goal.loop-west-preserved
loop-west-preserved c = (
  c.in_column-found.ensures.all_in_2,
  search rules,
  east_again c.requires.seeks.over c.requires.levels c.loop-west.invariant.2 c.in_column-found.result
      c.loop-west-test.true c.high_side-east.ensures c.in_column-found.ensures.first,
)

pub returns-clause-first : goal.returns-clause-first
returns-clause-first c =
    east_end c.requires.seeks.over c.requires.levels c.loop-west.invariant.2 c.loop-west-test.false
