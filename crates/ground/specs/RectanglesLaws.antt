-- The laws of rectangles: rectangles and points within each other. Assumes nothing.
use Rattle.std.proofs.Common.{arith}
use Rattle.ground.specs.declared.Point.{Point}
use Rattle.ground.specs.declared.Rectangle.{Rectangle}
use Rattle.ground.specs.Rectangles.{Within, Holds, Lies, Ordered, Wide, south_west, centre_of}

-- A rectangle is within itself, and within what holds one around it
pub within_self : (r : Rectangle) → Within r r
within_self r = omega arith

pub within_then : {r s t : Rectangle} → Within r s → Within s t → Within r t
within_then h k = omega arith

-- Sides that are apart are in order
pub wide_ordered : {r : Rectangle} → Wide r → Ordered r
wide_ordered w = omega arith

-- The centre of a wide rectangle lies in it, and so does its south-west corner
pub centre_lies : {r : Rectangle} → Wide r → Lies r (centre_of r)
unfolding centre_of
centre_lies h = omega arith

pub corner_lies : {r : Rectangle} → Wide r → Lies r (south_west r)
corner_lies h = omega arith

-- A point of a rectangle is one of each rectangle that it is within
pub lies_within : {r s : Rectangle} {p : Point} → Within r s → Lies r p → Lies s p
lies_within h k = omega arith

pub holds_within : {r s : Rectangle} {p : Point} → Within r s → Holds r p → Holds s p
holds_within h k = omega arith

-- A rectangle that has a point in it is wide
pub lies_wide : {r : Rectangle} {p : Point} → Lies r p → Wide r
lies_wide h = omega arith
