-- `quick::search::in_cell` meets its contract: a descent from the cell, with all edges. Assumes nothing.
use borrow.Author.Rules.{rules}
use Rattle.quick.specs.HalfLaws.{all_same}
use Rattle.quick.specs.SearchLaws.{top_level, by_lat_all}
use Rattle.quick.proofs.search.in_cell.Goals as goal

pub by_lat-requires : goal.by_lat-requires
by_lat-requires c =
    by_lat_all c.requires.all_in c.requires.seeks (top_level c.requires.levels) c.requires.halved c.requires.levels c.requires.past

pub returns-clause-all_in_2 : goal.returns-clause-all_in_2
returns-clause-all_in_2 c =
    all_same c.requires.all_in (search rules) c.by_lat.ensures.same
