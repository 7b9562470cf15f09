-- `boundary::asked::inside` meets its contract: by the sides found, or none. Assumes nothing.
use mathlib.Core.Path.{ap, sym, ◌∙◌}
use mathlib.Core.Bool.{Bool, ◌&&◌}
use Rattle.ground.specs.declared.Point.{Point}
use Rattle.ground.specs.Rectangles.{centre_of}
use Rattle.ground.proofs.CellsLaws.{found_none}
use Rattle.boundary.specs.Boundary.{point_inside, inside}
use Rattle.boundary.specs.Listed.{edges_in}
use Rattle.boundary.proofs.InsideLaws.{inside_found}
use Rattle.boundary.proofs.asked.inside.Goals as goal

pub returns-then-unmet : goal.returns-then-unmet
returns-then-unmet c =
    let a = c.args in
    let es = edges_in a.edges.now in
    let unmet-so = sym c.unmet.ensures ∙ c.if-unmet.true in
    c.odd_count.ensures
    ∙ ap (λ (p : Point). point_inside p es) c.centre.ensures
    ∙ ap (λ (t : Bool). t && point_inside (centre_of c.in-Some.r) es) (sym unmet-so)
    ∙ inside_found es a.c c.in-Some.r (sym c.in-Some.is ∙ c.sides_found-found.ensures)

pub returns-else-unmet : goal.returns-else-unmet
returns-else-unmet c =
    let a = c.args in
    let es = edges_in a.edges.now in
    let met = sym c.unmet.ensures ∙ c.if-unmet.false in
    c.if-unmet.false
    ∙ ap (λ (t : Bool). t && point_inside (centre_of c.in-Some.r) es) (sym met)
    ∙ inside_found es a.c c.in-Some.r (sym c.in-Some.is ∙ c.sides_found-found.ensures)

pub returns-in-None : goal.returns-in-None
returns-in-None c =
    let a = c.args in
    let none = found_none a.c (sym c.in-None.is ∙ c.sides_found-found.ensures) in
    ap (λ (t : Bool). t && inside (edges_in a.edges.now) a.c) (sym none)
