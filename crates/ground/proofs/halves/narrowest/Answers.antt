-- `ground::halves::narrowest` meets its contract: what whole cells leave, or the size where they leave nothing. Assumes nothing.
use Prim.Native.Nat.{ℕ, ◌%◌}
use mathlib.Core.Path.{ap₂, sym, ◌∙◌}
use borrow.Author.Tests.{eq-eqb}
use Rattle.ground.specs.Levels.{size_of}
use Rattle.ground.specs.Halves.{narrowest}
use Rattle.ground.proofs.HalvesLaws.{narrow_size, narrow_cut}
use Rattle.ground.proofs.halves.narrowest.Goals as goal

pub returns-then-part-eq0 : goal.returns-then-part-eq0
unfolding narrowest
returns-then-part-eq0 c = rw (eq-eqb (size_of c.args.level) 0 (sym c.size-part.ensures ∙ c.if-part-eq0.true))

pub returns-then-cut-eq0 : goal.returns-then-cut-eq0
returns-then-cut-eq0 c =
    c.size-part.ensures ∙ sym (narrow_size c.args.level ((λ e. c.if-part-eq0.false (c.size-part.ensures ∙ e))) ((ap₂ (λ (w n : ℕ). w % n) (sym c.afresh.ensures.value) (sym c.size-part.ensures)) ∙ c.if-cut-eq0.true))

pub returns-else-cut-eq0 : goal.returns-else-cut-eq0
returns-else-cut-eq0 c =
    sym ((ap₂ (λ (w n : ℕ). w % n) (sym c.afresh.ensures.value) (sym c.size-part.ensures)))
    ∙ sym (narrow_cut c.args.level ((λ e. c.if-part-eq0.false (c.size-part.ensures ∙ e))) (λ e. c.if-cut-eq0.false (sym ((ap₂ (λ (w n : ℕ). w % n) (sym c.afresh.ensures.value) (sym c.size-part.ensures))) ∙ e)))
