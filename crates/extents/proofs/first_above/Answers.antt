-- `extents::first_above` meets its contract: no corner before `i` is above its range. Assumes nothing.
use mathlib.Core.Path.{◌≡◌, ap, sym, ◌∙◌}
use native.Mathlib.Omega.{arith}
use borrow.Author.Rules.{rules}
use lib.ListN.{get_or}
use Rattle.ground.specs.declared.Point.{Point}
use Rattle.ground.specs.Levels.{lat, lon}
use Rattle.facts.specs.Places.{again, found, finish}
use Rattle.corners.specs.Corners.{corners_of, corners_length, corner_get}
use Rattle.unit.specs.Unit.{above_range}
use Rattle.extents.proofs.first_above.Goals as goal

abbrev origin : Point
origin = record { lat = lat 0; lon = lon 0 }

pub returns-then-above_range : goal.returns-then-above_range
returns-then-above_range c =
    let told : above_range (get_or (corners_of (c.args.numbers.now)) c.loop-i.i origin) ≡ c.above_range.result = ap above_range (corner_get (c.args.numbers.now) c.loop-i.i origin (search rules) ∙ sym c.corner.ensures) ∙ sym c.above_range.ensures in
    found c.loop-i.invariant (omega (arith, corners_length (c.args.numbers.now))) origin (told ∙ c.if-above_range.true)

pub loop-i-preserved : goal.loop-i-preserved
loop-i-preserved c =
    let told : above_range (get_or (corners_of (c.args.numbers.now)) c.loop-i.i origin) ≡ c.above_range.result = ap above_range (corner_get (c.args.numbers.now) c.loop-i.i origin (search rules) ∙ sym c.corner.ensures) ∙ sym c.above_range.ensures in
    again c.loop-i.invariant (omega (arith, corners_length (c.args.numbers.now))) origin (told ∙ c.if-above_range.false)

pub returns : goal.returns
returns c =
    let many = corners_length c.args.numbers.now in
    let none = finish c.loop-i.invariant (omega (arith, many)) in
    omega (arith, none, c.loop-i.invariant.within, many)
