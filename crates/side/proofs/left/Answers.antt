-- `side::left` meets its contract: what stands for right is what stands for left of the line turned round. Assumes nothing.
use Rattle.std.proofs.Common.{arith}
use Rattle.side.specs.Side.{left_sum, right_sum, left}
use Rattle.side.specs.SideLaws.{ltb_same}
use Rattle.side.proofs.left.Goals as goal

pub returns : goal.returns
unfolding left
returns c =
    let a = c.args in
    rw (c.left_sum.ensures, c.left_sum-2.ensures)
    (ltb_same (left_sum a.b a.a a.p) (left_sum a.a a.b a.p) (right_sum a.a a.b a.p) (left_sum a.a a.b a.p) (λ h. omega arith) (λ h. omega arith))
