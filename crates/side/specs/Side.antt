-- The side of a line on which a point lies (document 01, "The cell inside"). Assumes nothing.
use Rattle.std.specs.Prelude.{ℕ, ◌+◌, ◌*◌, ◌≤◌, Bool, leb, ltb}
use Rattle.ground.specs.declared.Point.{Point}

-- Sides of a line are told by the sign of a difference of products: what stands for left of the line from a to b, and for right
abbrev pub left_sum : Point → Point → Point → ℕ
left_sum a b p = a.lon.0 * b.lat.0 + b.lon.0 * p.lat.0 + p.lon.0 * a.lat.0

abbrev pub right_sum : Point → Point → Point → ℕ
right_sum a b p = b.lon.0 * a.lat.0 + p.lon.0 * b.lat.0 + a.lon.0 * p.lat.0

-- Left of the line; on the line counts for either side
unfoldable pub left : Point → Point → Point → Bool
left a b p = ltb (right_sum a b p) (left_sum a b p)

unfoldable pub left_or_on : Point → Point → Point → Bool
left_or_on a b p = leb (right_sum a b p) (left_sum a b p)

-- The same as a statement
abbrev pub Leftward : Point → Point → Point → Type 0
Leftward a b p = right_sum a b p ≤ left_sum a b p
