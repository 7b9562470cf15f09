-- `trials::questions::list` meets its contract: what is listed fits in the room. Assumes nothing.
use Rattle.std.proofs.Common.{replicate, arith}
use Rattle.boundary.specs.ListedLaws.{listed_fits}
use Rattle.trials.proofs.questions.list.Goals as goal

pub returns : goal.returns
returns c =
    let a = c.args in
    omega (arith, c.list_edges.ensures.value, listed_fits a.numbers.now a.edges.now (replicate 6144 0))
