-- `cells::low_side` meets its contract: a low side is at most the angle, so it fits. Assumes nothing.
use Prim.Native.Nat.{◌+◌, ◌*◌, ◌/◌, ◌%◌}
use native.Mathlib.Omega.{arith}
use mathlib.Core.Path.{◌≡◌}
use Rattle.ground.specs.Cells.{low_side}
use Rattle.cells.proofs.low_side.Goals as goal

pub returns-then-part-eq0 : goal.returns-then-part-eq0
unfolding low_side
returns-then-part-eq0 c =
    let side : c.args.a / c.afresh-whole.result * c.afresh-whole.result + c.args.a % c.afresh-whole.result / c.size-part.result * c.size-part.result ≡ low_side c.args.level c.args.a = rw (c.afresh-whole.ensures.value, c.size-part.ensures) in
    let none : c.args.a % c.afresh-whole.result / c.size-part.result * c.size-part.result ≡ 0 = rw c.if-part-eq0.true (omega arith) in
    omega (arith, side, none)

pub returns : goal.returns
unfolding low_side
returns c =
    let side : c.args.a / c.afresh-whole.result * c.afresh-whole.result + c.args.a % c.afresh-whole.result / c.size-part.result * c.size-part.result ≡ low_side c.args.level c.args.a = rw (c.afresh-whole.ensures.value, c.size-part.ensures) in
    side
