-- `replaying::note_step` meets its contract, by the step's activity. Assumes nothing.
use Rattle.std.proofs.Common.{eq-eqb, ne_eqb}
use Rattle.replaying.proofs.note_step.Goals as goal

pub returns-then-step-ne0 : goal.returns-then-step-ne0
returns-then-step-ne0 c =
    let step = c.args.step in
    rw (ne_eqb step.active 0 c.if-step-ne0.true) c.note.ensures

pub returns-else-step-ne0 : goal.returns-else-step-ne0
returns-else-step-ne0 c = let step = c.args.step in rw (eq-eqb step.active 0 c.if-step-ne0.false)
