-- `plain::search::try_level` meets its contract: the next west side lies within the range. Assumes nothing.
use Rattle.std.proofs.Common.{◌≤◌, arith}
use Rattle.ground.specs.Levels.{lon_end}
use Rattle.ground.specs.Cells.{high_side}
use Rattle.ground.proofs.SidesLaws.{side_end}
use Rattle.plain.proofs.search.try_level.Goals as goal

pub try_west-tried-requires-clause-west : goal.try_west-tried-requires-clause-west
try_west-tried-requires-clause-west c =
    let ends : high_side c.args.level c.loop-west.west ≤ lon_end =
    side_end c.args.level c.requires.level 180 c.loop-west.invariant.is c.loop-west-test.true c.requires.over.east_end in
    record { is = c.loop-west.invariant.is; end = ends }

pub overflow_cast-west : goal.overflow_cast-west
overflow_cast-west c =
    let ends : high_side c.args.level c.loop-west.west ≤ lon_end =
    side_end c.args.level c.requires.level 180 c.loop-west.invariant.is c.loop-west-test.true c.requires.over.east_end in
    omega (arith, c.high_side-west.ensures, ends)
