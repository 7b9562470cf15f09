-- `quick::kept::sorted` meets its contract: it stays with its edges, or has those that meet it, and the count at its corner. Assumes nothing.
use native.Mathlib.Omega.{arith}
use mathlib.Core.Path.{refl, sym, ap, subst, ◌∙◌}
use Rattle.ground.specs.Rectangles.{Lies}
use Rattle.ground.specs.RectanglesLaws.{corner_lies}
use Rattle.boundary.specs.Listed.{boundary_of}
use Rattle.quick.specs.declared.half.Half.{Half}
use Rattle.quick.specs.Half.{Sound}
use Rattle.quick.specs.HalfLaws.{odd_inside, sound_starting, sound_sorted}
use Rattle.quick.proofs.kept.sorted.Goals as goal

pub returns-then-left-lt6-clause-ground_value : goal.returns-then-left-lt6-clause-ground_value
returns-then-left-lt6-clause-ground_value c =
    let a = c.args in
    let sound = sound_starting c.requires.sound c.requires.place_lt_to.1 in
    (ap (λ (h : Half). h.ground) c.starting_at.ensures, subst (λ (h : Half). Sound (boundary_of a.numbers.now) a.room.now h) (sym c.starting_at.ensures) sound)

pub returns-clause-ground_value : goal.returns-clause-ground_value
returns-clause-ground_value c =
    let lies = subst (Lies c.args.half.ground) (sym c.south_west-corner.ensures) (corner_lies c.requires.sound.wide) in
    let count = c.odd_at-odd.ensures ∙ odd_inside c.requires.sound lies in (
      refl,
      sound_sorted c.requires.sound c.south_west-corner.ensures count c.requires.place_lt_to.1 c.keep-end.ensures.result_after
          (c.keep-end.ensures.lower_bound.0, omega (arith, c.keep-end.ensures.lower_bound.1, c.keep-end.auto.room)),
    )
