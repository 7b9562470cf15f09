-- `register::reply::reply_unit` meets its contract: the road keeps its promise in a room of twenty bytes, and its number says whether
-- there is a code. Assumes nothing.
use Rattle.std.proofs.Common.{sym, ◌∙◌}
use Rattle.register.specs.SaidLaws.{said_code, said_refused}
use Rattle.register.proofs.reply.reply_unit.Goals as goal

pub returns-then-refusal-eq0 : goal.returns-then-refusal-eq0
returns-then-refusal-eq0 c =
    let asked = c.args in
    let accepts = sym c.coded_number-refusal.ensures ∙ c.if-refusal-eq0.true in
    rw (said_code asked.unit.letter asked.unit.number asked.coordinates.now c.code-answer.result c.kind_of.ensures c.code-answer.ensures accepts) c.put_code.ensures

pub returns : goal.returns
returns c =
    let asked = c.args in
    let other = c.if-refusal-eq0.false in
    let refused = said_refused asked.unit.letter asked.unit.number asked.coordinates.now c.code-answer.result c.kind_of.ensures c.code-answer.ensures (λ e. other (c.coded_number-refusal.ensures ∙ e)) in
    rw (refused, ← c.coded_number-refusal.ensures, ← c.coded_place.ensures) c.put_refused.ensures
