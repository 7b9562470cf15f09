-- `ffi::told` meets its contract: acceptance tells the fields and the rectangle, and every other answer tells nothing but number and place.
-- Assumes nothing.
use Rattle.std.specs.Prelude.{Result, Err}
use mathlib.Core.Path.{◌≡◌, refl, ap, sym, subst, ◌∙◌}
use borrow.Author.Rules.{rules}
use Rattle.code.specs.declared.Reading.{Reading}
use Rattle.code.specs.declared.ReadError.{ReadError}
use Rattle.code.specs.declared.ReadError.TheVariants as reads
use Rattle.code.specs.Code.{tells, tells_nothing}
use Rattle.ffi.specs.Replying.{says_both, accepts}
use Rattle.ffi.proofs.told.Goals as goal

nothing : (e : ReadError) → tells_nothing (tells (Err e)).said ≡ tells (Err e)
nothing reads.Length = refl
nothing (reads.Letter p) = refl
nothing reads.Closing = refl
nothing reads.Hemisphere = refl
nothing reads.Degrees = refl
nothing reads.Sixty = refl
nothing reads.Scale = refl
nothing reads.Span = refl

pub returns-in-Ok : goal.returns-in-Ok
returns-in-Ok c = search (rules, accepts)

pub returns-in-Err : goal.returns-in-Err
returns-in-Err c =
    let a = c.args in
    c.refused.ensures
    ∙ ap tells_nothing (says_both (tells a.answer).said c.reading_number.ensures c.reading_place.ensures)
    ∙ subst (λ (r : Result Reading ReadError). tells_nothing (tells r).said ≡ tells r) (sym c.in-Err.is) (nothing c.in-Err.field-0)
