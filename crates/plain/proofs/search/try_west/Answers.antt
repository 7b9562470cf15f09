-- `plain::search::try_west` meets its contract: the next south side lies within the range. Assumes nothing.
use Rattle.std.proofs.Common.{◌≤◌, arith}
use Rattle.ground.specs.Levels.{lat_end}
use Rattle.ground.specs.Cells.{high_side}
use Rattle.ground.proofs.SidesLaws.{side_end}
use Rattle.plain.proofs.search.try_west.Goals as goal

pub overflow_cast-south : goal.overflow_cast-south
overflow_cast-south c =
    let ends : high_side c.args.level c.loop-south.south ≤ lat_end =
    side_end c.args.level c.requires.level 90 c.loop-south.invariant.is c.loop-south-test.true c.requires.over.north_end in
    omega (arith, c.high_side-south.ensures, ends)
