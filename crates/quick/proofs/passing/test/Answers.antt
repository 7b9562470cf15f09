-- `quick::passing::test` meets its contract: by each of its answers. Assumes nothing.
use mathlib.Core.Path.{◌≡◌, sym, ap, subst, ◌∙◌}
use mathlib.Core.Bool.{true}
use Rattle.ground.specs.Rectangles.{Lies}
use Rattle.ground.specs.RectanglesLaws.{corner_lies}
use Rattle.boundary.specs.Boundary.{point_inside, unmet}
use Rattle.boundary.specs.Listed.{boundary_of}
use Rattle.boundary.proofs.InsideLaws.{point_ground}
use Rattle.quick.specs.Half.{too_little}
use Rattle.quick.specs.HalfLaws.{met_unmet, none_unmet, odd_inside}
use Rattle.quick.specs.PassingLaws.{little_none, even_none, met_outside, inside_outside}
use Rattle.quick.proofs.passing.test.Goals as goal

pub returns-then-too_little-clause-holds_none : goal.returns-then-too_little-clause-holds_none
returns-then-too_little-clause-holds_none c =
    let a = c.args in
    let little = ap (too_little a.half.ground a.sought.extents) (sym c.requires.seeks.least) ∙ sym c.too_little.ensures ∙ c.if-too_little.true in
    λ _. little_none c.requires.seeks.over c.requires.seeks.most a.half.ground little

pub returns-in-Some-clause-result_value : goal.returns-in-Some-clause-result_value
returns-in-Some-clause-result_value c =
    let met = met_unmet c.requires.sound c.in-Some.ensures.1 c.in-Some.ensures.0 in
    λ o. absurd (met_outside (boundary_of c.args.numbers.now) c.args.half.ground met o)

pub returns-then-odd_at-clause-fact : goal.returns-then-odd_at-clause-fact
returns-then-odd_at-clause-fact c =
    let free : unmet c.args.half.ground (boundary_of c.args.numbers.now) ≡ true = none_unmet c.requires.sound c.in_default.ensures in
    let lies : Lies c.args.half.ground c.south_west.result = subst (Lies c.args.half.ground) (sym c.south_west.ensures) (corner_lies c.requires.sound.wide) in
    let count : point_inside c.south_west.result (boundary_of c.args.numbers.now) ≡ c.odd_at.result = sym (c.odd_at.ensures ∙ odd_inside c.requires.sound lies) in
    point_ground c.requires.sound.closed free lies ∙ count ∙ c.if-odd_at.true

pub returns-then-odd_at-clause-result_value : goal.returns-then-odd_at-clause-result_value
returns-then-odd_at-clause-result_value c =
    λ o. absurd (inside_outside (boundary_of c.args.numbers.now) c.args.half.ground (returns-then-odd_at-clause-fact c) o)

pub returns-clause-holds_none : goal.returns-clause-holds_none
returns-clause-holds_none c =
    let free : unmet c.args.half.ground (boundary_of c.args.numbers.now) ≡ true = none_unmet c.requires.sound c.in_default.ensures in
    let lies : Lies c.args.half.ground c.south_west.result = subst (Lies c.args.half.ground) (sym c.south_west.ensures) (corner_lies c.requires.sound.wide) in
    let count : point_inside c.south_west.result (boundary_of c.args.numbers.now) ≡ c.odd_at.result = sym (c.odd_at.ensures ∙ odd_inside c.requires.sound lies) in
    λ _. even_none c.requires.sound.closed free lies (count ∙ c.if-odd_at.false)
