-- The laws of the test for passing over (document 01, "What the work covers"): a half with less of the extents in it than the narrowest wanted
-- cell holds none, nor does one that no edge meets and whose centre is not inside. Assumes nothing.
use Rattle.std.specs.Prelude.{ℕ, ◌≤◌, ◌≡◌, ◌⊎◌, Bool, true, false, not, ◌&&◌, List, ltb}
use Rattle.std.proofs.Common.{arith, ap, sym, ◌∙◌, inl, inr, true≢false, ltb-true}
use Rattle.std.proofs.lemmas.Bool.{false≢true}
use Rattle.facts.specs.Tests.{both, either}
use Rattle.ground.specs.declared.Point.{Point}
use Rattle.ground.specs.declared.Rectangle.{Rectangle}
use Rattle.ground.specs.Levels.{finest_level}
use Rattle.ground.specs.Rectangles.{Within, Lies, centre_of}
use Rattle.ground.specs.RectanglesLaws.{centre_lies, lies_within}
use Rattle.ground.specs.Cells.{sides_of}
use Rattle.ground.proofs.CellsLaws.{cell_wide}
use Rattle.ground.specs.Halves.{narrowest}
use Rattle.ground.proofs.HalvesLaws.{narrow_wide, narrow_finer}
use Rattle.edge.specs.Edge.{Edge}
use Rattle.boundary.specs.Boundary.{point_inside, unmet, ground_inside}
use Rattle.boundary.specs.Closed.{Closed}
use Rattle.boundary.proofs.InsideLaws.{point_ground, inside_point}
use Rattle.chosen.specs.Chosen.{Over}
use Rattle.chosen.specs.InExtents.{in_extents}
use Rattle.quick.specs.Half.{common, too_little, ground_outside, HoldsNone}

-- Ground with less of the extents in it than the narrowest wanted cell holds none
pub little_none : {es : List Edge} {r : Rectangle} → Over r es → {finest : ℕ} → finest ≤ finest_level → (g : Rectangle)
    → too_little g r (narrowest finest) ≡ true → HoldsNone es finest g
unfolding sides_of
little_none {es} {r} o {finest} l g t d is most in_d w =
    by
    (either (ltb (common g.south.0 g.north.0 r.south.0 r.north.0) (narrowest finest))
    (ltb (common g.west.0 g.east.0 r.west.0 r.east.0) (narrowest finest)) t)
  where
    x : Within (sides_of d) r
    x = in_extents o d is in_d

    least : narrowest finest ≤ narrowest d.level
    least = narrow_finer d.level finest is.level.coarsest most l

    by : (ltb (common g.south.0 g.north.0 r.south.0 r.north.0) (narrowest finest) ≡ true)
        ⊎ (ltb (common g.west.0 g.east.0 r.west.0 r.east.0) (narrowest finest) ≡ true) → ⊥
    by (inl e) =
        omega (
          arith,
          least,
          ltb-true (common g.south.0 g.north.0 r.south.0 r.north.0) (narrowest finest) e,
          narrow_wide d.level d.south.0 is.level is.south,
          w.south,
          w.north,
          x.south,
          x.north,
        )
    by (inr e) =
        omega (
          arith,
          least,
          ltb-true (common g.west.0 g.east.0 r.west.0 r.east.0) (narrowest finest) e,
          narrow_wide d.level d.west.0 is.level is.west,
          w.west,
          w.east,
          x.west,
          x.east,
        )

-- Ground that no edge meets and with a point that is not inside holds none
pub even_none : {es : List Edge} → Closed es → {g : Rectangle} → unmet g es ≡ true → {p : Point} → Lies g p → point_inside p es ≡ false
    → {finest : ℕ} → HoldsNone es finest g
even_none {es} c {g} u {p} k e d is most in_d w =
    let centre = centre_lies (cell_wide d is.level) in
    let whole = point_ground c u k ∙ e in
    let part = point_ground c u (lies_within w centre) ∙ inside_point es (sides_of d) in_d c centre in
    true≢false (sym part ∙ whole)

-- Ground that an edge meets is not inside, and not outside
pub met_inside : (es : List Edge) (g : Rectangle) → unmet g es ≡ false → ground_inside es g ≡ false
unfolding ground_inside
met_inside es g e = ap (λ (t : Bool). t && point_inside (centre_of g) es) e

pub met_outside : (es : List Edge) (g : Rectangle) → unmet g es ≡ false → ground_outside es g ≡ true → ⊥
unfolding ground_outside
met_outside es g e t =
    false≢true (sym e ∙ (both (unmet g es) (not (point_inside (centre_of g) es)) t).0)

-- Ground that is inside is not outside
pub inside_outside : (es : List Edge) (g : Rectangle) → ground_inside es g ≡ true → ground_outside es g ≡ true → ⊥
unfolding ground_inside ground_outside
inside_outside es g i o =
    let t = both (unmet g es) (point_inside (centre_of g) es) i in
    let s = both (unmet g es) (not (point_inside (centre_of g) es)) o in
    false≢true (ap not (sym t.1) ∙ s.1)
