-- `checking::admit` meets its contract: the first table that refuses, or the unit's own extremes. Assumes nothing.
use Rattle.std.specs.Prelude.{ℕ, ◌≡◌, refl, List, [], ◌++◌, T, Result, Err}
use Rattle.std.proofs.Common.{ap, sym, ◌∙◌}
use Rattle.std.proofs.lemmas.Result.{err_from_is_err_and}
use Rattle.replies.specs.Replies.{Said, accepted, Check, run}
use Rattle.replies.specs.RepliesLaws.{numbered, stops, goes_on}
use Rattle.ground.specs.declared.Rectangle.{Rectangle}
use Rattle.corners.specs.Corners.{corners_of}
use Rattle.unit.specs.declared.Refusal.{Refusal}
use Rattle.unit.specs.declared.Kind.{Kind}
use Rattle.unit.specs.Unit.{room_check, shape_checks, ground_checks, number_check}
use Rattle.unit.specs.Frame.{says, tells, first_checks, admitting}
use Rattle.unit.specs.FrameLaws.{refuses, admitting_refuses, admitting_accepts}
use Rattle.unit.specs.CheckLaws.{shaped}
use Rattle.checking.proofs.admit.Goals as goal

-- Where two tables pass, both together do
both : (cs ds : List Check) → T (numbered cs) → accepted ≡ run cs → accepted ≡ run ds → accepted ≡ run (cs ++ ds)
both cs ds t pass others = goes_on cs ds t pass refl others

module _ (room : ℕ) (numbers : List ℕ) (kind : Kind) (number : ℕ) where
  -- Where the tables before one pass and it refuses, they all leave its refusal
  refused_at : (before cs after : List Check) → before ++ (cs ++ after) ≡ first_checks room numbers kind number
      → T (numbered before) → T (numbered cs) → accepted ≡ run before → (why : Refusal) → says (Err why) ≡ run cs
      → {answer : Result Rectangle Refusal} → answer ≡ Err why → tells answer ≡ admitting room numbers kind number
  refused_at before cs after all t k pass why e answered =
      ap tells answered
      ∙ admitting_refuses room numbers kind number
      (goes_on before (cs ++ after) t pass refl (stops cs after k e (refuses why)) ∙ ap run all) (refuses why)

pub ground_checks-requires : goal.ground_checks-requires
ground_checks-requires c = record {
  numbers_len_bound = (shaped c.args.numbers.now (ap (λ (s : Said). s.number) (sym c.in_ok-shape_checks.ensures))).most;
  r_value = c.extremes-r.ensures;
}

pub returns-in_err-room_check : goal.returns-in_err-room_check
unfolding first_checks
returns-in_err-room_check c =
    let a = c.args in
    let ns = a.numbers.now in
    let same = err_from_is_err_and c.from_residual.result c.from_residual.ensures.1 in
    refused_at a.room ns a.kind a.number [] (room_check a.room)
    (shape_checks ns ++ ground_checks (corners_of ns) ++ number_check a.kind a.number) refl tt tt refl c.in_err-room_check.field-0.0
    c.in_err-room_check.ensures (same.1 ∙ ap Err same.2)

pub returns-in_err-shape_checks : goal.returns-in_err-shape_checks
unfolding first_checks
returns-in_err-shape_checks c =
    let a = c.args in
    let ns = a.numbers.now in
    let same = err_from_is_err_and c.from_residual-in_err-shape_checks.result c.from_residual-in_err-shape_checks.ensures.1 in
    refused_at a.room ns a.kind a.number (room_check a.room) (shape_checks ns)
    (ground_checks (corners_of ns) ++ number_check a.kind a.number) refl tt tt c.in_ok-room_check.ensures
    c.in_err-shape_checks.field-0.0 c.in_err-shape_checks.ensures (same.1 ∙ ap Err same.2)

pub returns-in_err-ground_checks : goal.returns-in_err-ground_checks
unfolding first_checks
returns-in_err-ground_checks c =
    let a = c.args in
    let ns = a.numbers.now in
    let same = err_from_is_err_and c.from_residual-in_err-ground_checks.result c.from_residual-in_err-ground_checks.ensures.1 in
    let early = both (room_check a.room) (shape_checks ns) tt c.in_ok-room_check.ensures c.in_ok-shape_checks.ensures in
    refused_at a.room ns a.kind a.number (room_check a.room ++ shape_checks ns) (ground_checks (corners_of ns))
    (number_check a.kind a.number) refl tt tt early
    c.in_err-ground_checks.field-0.0 c.in_err-ground_checks.ensures (same.1 ∙ ap Err same.2)

pub returns-in_err-number_check : goal.returns-in_err-number_check
unfolding first_checks
returns-in_err-number_check c =
    let a = c.args in
    let ns = a.numbers.now in
    let same = err_from_is_err_and c.from_residual-in_err-number_check.result c.from_residual-in_err-number_check.ensures.1 in
    let early = both (room_check a.room) (shape_checks ns) tt c.in_ok-room_check.ensures c.in_ok-shape_checks.ensures in
    let late = both (room_check a.room ++ shape_checks ns) (ground_checks (corners_of ns)) tt early c.in_ok-ground_checks.ensures in
    refused_at a.room ns a.kind a.number (room_check a.room ++ shape_checks ns ++ ground_checks (corners_of ns))
    (number_check a.kind a.number) [] refl tt tt late
    c.in_err-number_check.field-0.0 c.in_err-number_check.ensures (same.1 ∙ ap Err same.2)

pub returns : goal.returns
unfolding first_checks
returns c =
    let a = c.args in
    let ns = a.numbers.now in
    let early = both (room_check a.room) (shape_checks ns) tt c.in_ok-room_check.ensures c.in_ok-shape_checks.ensures in
    let late = both (room_check a.room ++ shape_checks ns) (ground_checks (corners_of ns)) tt early c.in_ok-ground_checks.ensures in
    admitting_accepts a.room ns a.kind a.number
    (both (room_check a.room ++ shape_checks ns ++ ground_checks (corners_of ns)) (number_check a.kind a.number) tt late
    c.in_ok-number_check.ensures) refl c.extremes-r.ensures
