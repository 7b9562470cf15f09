-- `cells::is_side` meets its contract: the low side decides, then the high side. Assumes nothing.
use mathlib.Core.Path.{sym, ◌∙◌}
use borrow.Author.Tests.{eq-eqb, ne_eqb}
use Rattle.ground.specs.Cells.{low_side, is_side}
use Rattle.cells.proofs.is_side.Goals as goal

pub returns-then-low_side-a : goal.returns-then-low_side-a
unfolding is_side
returns-then-low_side-a c =
    let a = c.args in
    rw (c.high_side.ensures, eq-eqb (low_side a.level a.a) a.a (sym c.low_side.ensures ∙ c.if-low_side-a.true))

pub returns-else-low_side-a : goal.returns-else-low_side-a
unfolding is_side
returns-else-low_side-a c =
    let a = c.args in
    rw (c.low_side.ensures, ne_eqb (low_side a.level a.a) a.a (λ e. c.if-low_side-a.false (c.low_side.ensures ∙ e)))
