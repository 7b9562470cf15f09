-- `demands::both_roads` meets its contract: demand 3, from the promises of the two roads as they are. Assumes nothing.
use Rattle.demands.specs.Ground.{same_answer_lem}
use Rattle.demands.proofs.both_roads.Goals as goal

pub returns-clause-same_answer : goal.returns-clause-same_answer
returns-clause-same_answer c =
    let a = c.args in
    same_answer_lem a.kind a.number a.one.now a.numbers.now a.other.now a.others.now c.code-quick.new.room
    c.code-plain.new.room c.code-quick.result c.code-plain.result c.code-quick.ensures c.code-plain.ensures
