-- `plain::code` meets its contract: a search is run where the checks leave what it takes for granted. Assumes nothing.
use Rattle.unit.specs.FrameLaws.{road_searches}
use Rattle.plain.proofs.code.Goals as goal

pub chosen_of-requires : goal.chosen_of-requires
chosen_of-requires c = road_searches _ _ _ _ c.admit.ensures c.in_ok-r.was
