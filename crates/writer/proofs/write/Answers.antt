-- `writer::write` meets its contract: the room is refused first, then the fields, and good fields are two numbers spelled. Assumes nothing.
use Rattle.std.specs.Prelude.{◌≤◌, ◌≡◌, length, Ok, Err}
use Rattle.std.proofs.Common.{arith, ap, ap₂, sym, ◌∙◌, rules}
use Rattle.std.proofs.lemmas.Result.{err_from_is_err_and}
use Rattle.replies.specs.Replies.{Said}
use Rattle.spelling.specs.Spelling.{spelled_into}
use Rattle.spelling.specs.SpellingLaws.{spelled_into_lem}
use Rattle.code.specs.declared.WriteError.{WriteError}
use Rattle.code.specs.declared.WriteError.TheVariants.{Output, Reference, Scale, Span, Number}
use Rattle.location.specs.Location.{location_of}
use Rattle.code.specs.Code.{rest_of, code_of, says, leaves}
use Rattle.code.specs.WritingLaws.{Good, fields_passed, short_writing, fields_writing, good_writing}
use Rattle.writer.proofs.write.Goals as goal

-- A refusal is no acceptance
refusal_number : (error : WriteError) → (says (Err error)).number ≡ 0 → ⊥
refusal_number Output e = omega (arith, e)
refusal_number Reference e = omega (arith, e)
refusal_number Scale e = omega (arith, e)
refusal_number Span e = omega (arith, e)
refusal_number Number e = omega (arith, e)

pub returns-then-room-lt20 : goal.returns-then-room-lt20
returns-then-room-lt20 c = let a = c.args in sym (short_writing a.room.now a.fields c.if-room-lt20.true)

pub returns-in_err-checks : goal.returns-in_err-checks
returns-in_err-checks c =
    let a = c.args in
    let error = c.in_err-checks.field-0.0 in
    let refused = err_from_is_err_and c.from_residual.result c.from_residual.ensures.1 in
    ap (λ r. leaves r a.room.now) (refused.1 ∙ ap Err refused.2)
    ∙ sym (fields_writing a.room.now a.fields (search rules) c.in_err-checks.ensures (refusal_number error))

pub rest_of-requires : goal.rest_of-requires
rest_of-requires c = fields_passed c.args.fields (ap (λ (s : Said). s.number) (sym c.in_ok-checks.ensures))

pub returns : goal.returns
unfolding code_of
returns c =
    let a = c.args in
    let good : Good a.fields = fields_passed a.fields (ap (λ (s : Said). s.number) (sym c.in_ok-checks.ensures)) in
    let long : 20 ≤ length a.room.now = search rules in
    ap (leaves (Ok tt))
    (c.spell.ensures
    ∙ ap₂ (spelled_into a.room.now) c.location_of-location.ensures c.rest_of.ensures
    ∙ spelled_into_lem (location_of a.fields.reference) (rest_of a.fields) a.room.now long)
    ∙ sym (good_writing a.room.now a.fields long good)
