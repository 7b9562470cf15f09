-- What the searches of a level draw on. Assumes nothing.
use Rattle.ground.proofs.CellsLaws.{low_below_high}
use Rattle.ground.proofs.SidesLaws.{side_end}
use Rattle.plain.specs.Turns.{sides_found_lem, sides_again, sides_end}
use Rattle.plain.specs.Trying.{south_tried, souths_begin, wests_begin}

-- The sides in turn, what trying one gives, and where a side's cell ends
pub ruleset searching = (sides_found_lem, sides_again, sides_end, south_tried, souths_begin, wests_begin, low_below_high, side_end)
