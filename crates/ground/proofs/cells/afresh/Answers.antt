-- `ground::cells::afresh` meets its contract. Assumes nothing.
use native.Mathlib.Omega.{arith}
use borrow.Author.Tests.{le-leb, lt-leb}
use Rattle.ground.specs.Levels.{minute_level}
use Rattle.ground.specs.Cells.{afresh}
use Rattle.ground.proofs.cells.afresh.Goals as goal

pub returns-then-level-le-MINUTE_LEVEL : goal.returns-then-level-le-MINUTE_LEVEL
unfolding afresh
returns-then-level-le-MINUTE_LEVEL c =
    record { value = rw (le-leb c.args.level minute_level c.if-level-le-MINUTE_LEVEL.true); lower_bound = omega arith }

pub returns-else-level-le-MINUTE_LEVEL : goal.returns-else-level-le-MINUTE_LEVEL
unfolding afresh
returns-else-level-le-MINUTE_LEVEL c =
    record { value = rw (lt-leb c.args.level minute_level c.if-level-le-MINUTE_LEVEL.false); lower_bound = omega arith }
