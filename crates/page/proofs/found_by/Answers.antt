-- `page::found_by` meets its contract, case by case: 52, 53, a record or what is none of either kind, 54. Assumes nothing.
use Prim.Native.Nat.{◌≤◌}
use native.Mathlib.Omega.{arith}
use mathlib.Core.Path.{◌≡◌, ap, sym, ◌∙◌}
use Rattle.std.specs.Prelude.{true, false, not}
use lib.ListN.{length}
use Rattle.entitlements.specs.declared.Kind.TheVariants.{Activate, Cancel}
use Rattle.page.specs.Page.{record_length, mark, mark_of, mark_wrong}
use Rattle.page.specs.Known.{code_by}
use Rattle.page.proofs.PageLaws.{texts_compared, found_cut, found_unmarked, found_kind, found_other}
use borrow.Author.Rules.{rules}
use Rattle.page.proofs.found_by.Goals as goal

pub returns-then-stretch-lt-RECORD : goal.returns-then-stretch-lt-RECORD
returns-then-stretch-lt-RECORD c =
    let asked = c.args in
    sym (found_cut (code_by asked.earlier.now asked.known) asked.stretch.now (omega (arith, c.if-stretch-lt-RECORD.true)))

pub returns-then-not-starts_with : goal.returns-then-not-starts_with
returns-then-not-starts_with c =
    let stretch = c.args.stretch.now in
    let unmarked : mark_wrong stretch ≡ true = ap not (sym (texts_compared mark (mark_of stretch)) ∙ sym c.starts_with.ensures.value ∙ c.if-not-starts_with.true) in
    sym (found_unmarked (code_by c.args.earlier.now c.args.known) stretch (omega (arith, c.if-stretch-lt-RECORD.false)) unmarked)

pub returns-in-65 : goal.returns-in-65
returns-in-65 c =
    let stretch = c.args.stretch.now in
    let long : record_length ≤ length stretch = omega (arith, c.if-stretch-lt-RECORD.false) in
    let marked : mark_wrong stretch ≡ false = ap not (sym (texts_compared mark (mark_of stretch)) ∙ sym c.starts_with.ensures.value ∙ c.if-not-starts_with.false) in
    c.content_by.ensures ∙ sym (found_kind (code_by c.args.earlier.now c.args.known) stretch long marked Activate c.in-65.is)

pub returns-in-67 : goal.returns-in-67
returns-in-67 c =
    let stretch = c.args.stretch.now in
    let long : record_length ≤ length stretch = omega (arith, c.if-stretch-lt-RECORD.false) in
    let marked : mark_wrong stretch ≡ false = ap not (sym (texts_compared mark (mark_of stretch)) ∙ sym c.starts_with.ensures.value ∙ c.if-not-starts_with.false) in
    c.content_by-in-67.ensures ∙ sym (found_kind (code_by c.args.earlier.now c.args.known) stretch long marked Cancel c.in-67.is)

pub returns-in_default : goal.returns-in_default
returns-in_default c =
    let stretch = c.args.stretch.now in
    let long : record_length ≤ length stretch = omega (arith, c.if-stretch-lt-RECORD.false) in
    let marked : mark_wrong stretch ≡ false = ap not (sym (texts_compared mark (mark_of stretch)) ∙ sym c.starts_with.ensures.value ∙ c.if-not-starts_with.false) in
    sym (found_other (code_by c.args.earlier.now c.args.known) stretch long marked (search rules) (search rules))
