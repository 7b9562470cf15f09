-- `quick::code` meets its contract: by the frame's laws, from what the checks leave to it and its search finds. Assumes nothing.
use Rattle.std.specs.Prelude.{Result, Err}
use Rattle.std.proofs.Common.{ap, ◌∙◌}
use Rattle.std.proofs.lemmas.Result.{err_from_is_err_and}
use Rattle.unit.specs.declared.Refusal.{Refusal}
use Rattle.unit.specs.Frame.{leaves}
use Rattle.unit.specs.FrameLaws.{road_refused, road_searches, road_ends}
use Rattle.quick.proofs.code.Goals as goal

pub chosen-requires : goal.chosen-requires
chosen-requires c = road_searches _ _ _ _ c.admit.ensures c.in_ok-r.was

pub returns-in_err-r : goal.returns-in_err-r
returns-in_err-r c =
    let same = err_from_is_err_and c.from_residual.result c.from_residual.ensures.1 in
    ap (λ (answer : Result (Unit {0}) Refusal). leaves answer c.args.room.now) (same.1 ∙ ap Err same.2)
    ∙ road_refused _ _ _ _ c.admit.ensures c.in_err-r.was

pub returns : goal.returns
returns c = road_ends _ _ _ _ c.admit.ensures c.in_ok-r.was c.chosen.ensures c.finish.ensures
