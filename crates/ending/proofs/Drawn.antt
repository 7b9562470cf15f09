-- What several steps of the end of coding draw on, by name. Assumes nothing.
use Rattle.ground.proofs.CellsLaws.{found_of, found_none}
use Rattle.ground.proofs.LevelsLaws.{size_most}
use Rattle.unit.specs.FrameLaws.{finish_cell, finish_none, finish_nowhere}
use Rattle.ending.specs.Scaling.{scale_begin, scale_before}

-- The end around a cell whose sides are found, around what is no cell, and around none
pub ruleset around = (found_of, found_none, finish_cell, finish_none, finish_nowhere)

-- The levels that are tried for the scale
pub ruleset scaling = (scale_begin, scale_before, size_most)
