-- The laws of the ground's five changes: what they leave unchanged, and that ground is inside for all lists of corners of one ground.
-- Assumes nothing.
use Rattle.std.specs.Prelude.{◌≡◌, refl, true, false, ◌&&◌, List, [], ◌∷◌, ◌++◌, reverse}
use Rattle.std.proofs.Common.{ap, ap₂, ◌∙◌, sym, append-nil, append_assoc}
use Rattle.facts.specs.Tests.{differ}
use Rattle.ground.specs.declared.Point.{Point}
use Rattle.ground.specs.declared.Rectangle.{Rectangle}
use Rattle.ground.specs.Rectangles.{Wide, centre_of}
use Rattle.ground.specs.RectanglesLaws.{wide_ordered}
use Rattle.edge.specs.Edge.{misses, crosses_east, OnEdge}
use Rattle.edge.specs.MissesLaws.{misses_one_point, misses_other_way}
use Rattle.edge.specs.CrossesLaws.{crosses_one_point, crosses_other_way}
use Rattle.edge.specs.OnEdgeLaws.{on_start, crosses_set}
use Rattle.edge.specs.PartsLaws.{misses_set}
use Rattle.boundary.specs.Boundary.{edges_of, point_inside, unmet, ground_inside}
use Rattle.boundary.specs.Sums.{next, around, and_sums, differ_sums, around_next, around_reverse, around_set}
use Rattle.boundary.specs.Closed.{inside_odd}
use Rattle.boundary.specs.Keeps.{unmet_total}
use Rattle.boundary.specs.Changes.{Change, starting, turning, repeating, setting, closing, SameGround, as_it_is, changing, undoing}

-- Unchanged: the same when started at the next corner, when turned, and when a corner is set on the edge from the first
pub record Unchanged {A : Type 0} (f : List Point → A) : Type 0 where
  pub started : (c : Point) (cs : List Point) → f (c ∷ cs) ≡ f (cs ++ (c ∷ []))
  pub turned : (cs : List Point) → f cs ≡ f (reverse cs)
  pub set : (a p : Point) (cs : List Point) → OnEdge a p (next a cs) → f (a ∷ cs) ≡ f (a ∷ p ∷ cs)

module _ {A : Type 0} (f : List Point → A) (same : Unchanged f) where
  started_anywhere : (cs ds : List Point) → f (cs ++ ds) ≡ f (ds ++ cs)
  started_anywhere [] ds = ap f (sym (append-nil ds))
  started_anywhere (c ∷ cs) ds =
      same.started c (cs ++ ds) ∙ ap f (append_assoc cs ds (c ∷ [])) ∙ started_anywhere cs (ds ++ (c ∷ []))
      ∙ ap f (append_assoc ds (c ∷ []) cs)

  set_anywhere : (cs : List Point) (a p : Point) (ds : List Point) → OnEdge a p (next a (ds ++ cs)) → f (cs ++ (a ∷ ds)) ≡ f (cs ++ (a ∷ p ∷ ds))
  set_anywhere cs a p ds on =
      started_anywhere cs (a ∷ ds) ∙ same.set a p (ds ++ cs) on ∙ sym (started_anywhere cs (a ∷ p ∷ ds))

  -- What is unchanged is the same after each change
  same_change : {cs ds : List Point} → Change cs ds → f cs ≡ f ds
  same_change (starting cs ds) = started_anywhere cs ds
  same_change (turning cs) = same.turned cs
  same_change (repeating cs a ds) = set_anywhere cs a a ds (on_start a (next a (ds ++ cs)))
  same_change (setting cs a p b ds on) = set_anywhere cs a p (b ∷ ds) on
  same_change (closing a cs b p on) = set_anywhere (a ∷ cs) b p [] on

  -- and for all of one ground
  pub same_ground : {cs ds : List Point} → SameGround cs ds → f cs ≡ f ds
  same_ground as_it_is = refl
  same_ground (changing c g) = same_change c ∙ same_ground g
  same_ground (undoing c g) = sym (same_change c) ∙ same_ground g

module _ (r : Rectangle) where
  unmet_unchanged : Wide r → Unchanged (around ◌&&◌ true (λ e. misses e r))
  unmet_unchanged wide =
      record {
        started = around_next ◌&&◌ true (λ e. misses e r) and_sums (misses_one_point r);
        turned = around_reverse ◌&&◌ true (λ e. misses e r) and_sums (misses_one_point r) (misses_other_way r (wide_ordered wide));
        set = λ a p cs on. around_set ◌&&◌ true (λ e. misses e r) and_sums (misses_one_point r) a p cs (misses_set r wide a p (next a cs) on);
      }

  -- No edge meets a rectangle, for all of one ground
  pub unmet_same : Wide r → {cs ds : List Point} → SameGround cs ds → unmet r (edges_of cs) ≡ unmet r (edges_of ds)
  unmet_same wide {cs} {ds} g =
      unmet_total r (edges_of cs) ∙ same_ground (around ◌&&◌ true (λ e. misses e r)) (unmet_unchanged wide) g ∙ sym (unmet_total r (edges_of ds))

module _ (q : Point) where
  odd_unchanged : Unchanged (around differ false (crosses_east q))
  odd_unchanged =
      record {
        started = around_next differ false (crosses_east q) differ_sums (crosses_one_point q);
        turned = around_reverse differ false (crosses_east q) differ_sums (crosses_one_point q) (crosses_other_way q);
        set = λ a p cs on. around_set differ false (crosses_east q) differ_sums (crosses_one_point q) a p cs (crosses_set q a p (next a cs) on);
      }

  -- A point is inside for all of one ground
  pub point_same : {cs ds : List Point} → SameGround cs ds → point_inside q (edges_of cs) ≡ point_inside q (edges_of ds)
  point_same {cs} {ds} g =
      inside_odd q (edges_of cs) ∙ same_ground (around differ false (crosses_east q)) odd_unchanged g ∙ sym (inside_odd q (edges_of ds))

-- Wide ground is inside for all lists of corners of one ground
pub inside_same : {cs ds : List Point} → SameGround cs ds → {r : Rectangle} → Wide r → ground_inside (edges_of cs) r ≡ ground_inside (edges_of ds) r
unfolding ground_inside
inside_same g {r} wide = ap₂ ◌&&◌ (unmet_same r wide g) (point_same (centre_of r) g)
