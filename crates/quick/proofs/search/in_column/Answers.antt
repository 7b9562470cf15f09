-- `quick::search::in_column` meets its contract: the ground from the first south side up to `south` has been searched. Assumes nothing.
use borrow.Author.Rules.{rules}
use Prim.Native.Nat.{◌≤◌}
use native.Mathlib.Omega.{arith}
use Rattle.ground.specs.Levels.{lat_end}
use Rattle.ground.proofs.CellsLaws.{low_below_high}
use Rattle.quick.specs.DescentLaws.{settled_first}
use Rattle.quick.specs.SearchLaws.{top_level, north_most, column_begin, column_past, column_again, column_end}
use Rattle.quick.proofs.search.in_column.Goals as goal

pub returns-then-settled-clause-first : goal.returns-then-settled-clause-first
returns-then-settled-clause-first c =
    settled_first c.requires.seeks c.requires.past (cc (c.settled.ensures, c.if-settled.true))

pub loop-south-init : goal.loop-south-init
loop-south-init c =
    (c.requires.all_in, search rules, column_begin c.requires.seeks.over c.requires.levels c.args.west c.args.east c.low_side-south.ensures)

pub overflow_cast-north : goal.overflow_cast-north
overflow_cast-north c =
    let next : c.high_side-north.result ≤ lat_end = omega (arith, c.high_side-north.ensures, north_most c.requires.seeks.over c.requires.levels c.loop-south.invariant.2.is c.loop-south-test.true) in
    omega (arith, next)

pub in_cell-found-requires-clause-halved : goal.in_cell-found-requires-clause-halved
in_cell-found-requires-clause-halved c =
    let next : c.high_side-north.result ≤ lat_end = omega (arith, c.high_side-north.ensures, north_most c.requires.seeks.over c.requires.levels c.loop-south.invariant.2.is c.loop-south-test.true) in
    record {
      lat = record { low = c.loop-south.invariant.2.is; high = c.high_side-north.ensures };
      lon = c.requires.column.lon;
      north_end = next;
      east_end = c.requires.column.east_end;
    }

pub in_cell-found-requires-clause-past : goal.in_cell-found-requires-clause-past
in_cell-found-requires-clause-past c =
    column_past c.requires.seeks.over c.requires.levels c.loop-south.invariant.2 c.high_side-north.result c.requires.past

pub loop-south-smaller : goal.loop-south-smaller
loop-south-smaller c =
    omega (arith, c.high_side-north.ensures, low_below_high c.args.top c.loop-south.south (top_level c.requires.levels), c.loop-south-test.true)

pub loop-south-preserved : goal.loop-south-preserved
loop-south-preserved c = (
  c.in_cell-found.ensures.all_in_2,
  search rules,
  column_again c.requires.seeks.over c.requires.levels c.loop-south.invariant.2 c.in_cell-found.result
      c.loop-south-test.true c.high_side-north.ensures c.in_cell-found.ensures.first,
)

pub returns-clause-first : goal.returns-clause-first
returns-clause-first c =
    column_end c.requires.seeks.over c.requires.levels c.loop-south.invariant.2 c.low_side-south.ensures c.loop-south-test.false
