-- `cells::sides_found` meets its contract: the first part of the test that fails decides. Assumes nothing.
use Prim.Native.Nat.{◌≤◌}
use native.Mathlib.Omega.{arith}
use mathlib.Core.Path.{◌≡◌, sym, ◌∙◌}
use borrow.Author.Tests.{le-leb, lt-leb}
use Rattle.ground.specs.Levels.{lat_end, lon_end, coarsest_level, finest_level}
use Rattle.ground.specs.Cells.{high_side, sides_of, is_side, is_cell, sides_found}
use Rattle.ground.proofs.CellsLaws.{side_ends}
use Rattle.cells.proofs.sides_found.Goals as goal

pub returns-then-level-lt-COARSEST : goal.returns-then-level-lt-COARSEST
unfolding sides_found is_cell
returns-then-level-lt-COARSEST c = rw (lt-leb coarsest_level c.args.c.level c.if-level-lt-COARSEST.true)

pub returns-then-level-gt-FINEST : goal.returns-then-level-gt-FINEST
unfolding sides_found is_cell
returns-then-level-gt-FINEST c =
    let level = c.args.c.level in
    rw (le-leb coarsest_level level c.if-level-lt-COARSEST.false, lt-leb level finest_level c.if-level-gt-FINEST.true)

pub returns-then-not-is_side : goal.returns-then-not-is_side
unfolding sides_found is_cell
returns-then-not-is_side c =
    let level = c.args.c.level in
    rw (le-leb coarsest_level level c.if-level-lt-COARSEST.false, le-leb level finest_level c.if-level-gt-FINEST.false, sym c.is_side.ensures ∙ c.if-not-is_side.true)

pub returns-then-not-is_side-2 : goal.returns-then-not-is_side-2
unfolding sides_found is_cell
returns-then-not-is_side-2 c =
    let so_far : let a = c.args.c in is_cell a ≡ is_side a.level a.south.0 lat_end = let level = c.args.c.level in rw (le-leb coarsest_level level c.if-level-lt-COARSEST.false, le-leb level finest_level c.if-level-gt-FINEST.false, sym c.is_side.ensures ∙ c.if-not-is_side.false) in
    rw (so_far, sym c.is_side-2.ensures ∙ c.if-not-is_side-2.true)

pub overflow_cast-result : goal.overflow_cast-result
overflow_cast-result c =
    let ends : (high_side c.args.c.level c.args.c.west.0 ≤ lon_end) × (high_side c.args.c.level c.args.c.south.0 ≤ lat_end) = let a = c.args.c in (side_ends a.level a.west.0 lon_end (sym c.is_side.ensures ∙ c.if-not-is_side.false), side_ends a.level a.south.0 lat_end (sym c.is_side-2.ensures ∙ c.if-not-is_side-2.false)) in
    omega (arith, c.high_side.ensures, ends.0)

pub overflow_cast-result-2 : goal.overflow_cast-result-2
overflow_cast-result-2 c =
    let ends : (high_side c.args.c.level c.args.c.west.0 ≤ lon_end) × (high_side c.args.c.level c.args.c.south.0 ≤ lat_end) = let a = c.args.c in (side_ends a.level a.west.0 lon_end (sym c.is_side.ensures ∙ c.if-not-is_side.false), side_ends a.level a.south.0 lat_end (sym c.is_side-2.ensures ∙ c.if-not-is_side-2.false)) in
    omega (arith, c.high_side-2.ensures, ends.1)

pub returns : goal.returns
unfolding sides_found sides_of is_cell
returns c =
    let so_far : let a = c.args.c in is_cell a ≡ is_side a.level a.south.0 lat_end = let level = c.args.c.level in rw (le-leb coarsest_level level c.if-level-lt-COARSEST.false, le-leb level finest_level c.if-level-gt-FINEST.false, sym c.is_side.ensures ∙ c.if-not-is_side.false) in
    rw (
      so_far,
      sym c.is_side-2.ensures ∙ c.if-not-is_side-2.false,
      c.high_side.ensures,
      c.high_side-2.ensures,
    )
