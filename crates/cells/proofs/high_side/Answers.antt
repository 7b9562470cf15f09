-- `cells::high_side` meets its contract: the full size, or the cut where that comes first. Assumes nothing.
use Prim.Native.Nat.{ℕ, ◌+◌, ◌*◌, ◌/◌, min}
use mathlib.Core.Path.{ap₂, ◌∙◌}
use Rattle.ground.specs.Cells.{high_side}
use Rattle.cells.proofs.high_side.Goals as goal

pub returns : goal.returns
unfolding high_side
returns c =
    let a = c.args.a in
    c.min.ensures ∙ ap₂ (λ (s w : ℕ). min (a + s) (a / w * w + w)) c.size.ensures c.afresh-whole.ensures.value
