-- Sums over edges, by any operation that is associative and commutative and has a unit, and what a sum over the edges of a boundary keeps
-- when its corners are changed. Assumes nothing.
use Rattle.std.specs.Prelude.{◌≡◌, Bool, true, false, cond, ◌&&◌}
use Rattle.std.proofs.Math.Path.{refl, ap, ap₂, sym}
use Rattle.std.proofs.Common.{◌∙◌}
use Rattle.std.proofs.Math.Bool.{and_assoc, and_comm}
use mathlib.Core.List.{List, [], ◌∷◌, ◌++◌, reverse, reverse-cons}
use Rattle.facts.specs.Tests.{differ, differ_assoc, differ_comm}
use Rattle.ground.specs.declared.Point.{Point}
use Rattle.edge.specs.Edge.{Edge, edge, no_length}
use Rattle.edge.specs.MissesLaws.{one_point}
use Rattle.boundary.specs.Boundary.{joined, with_length, edges_of}

-- The corner after the first, which is the first itself where it is alone
abbrev pub next : Point → List Point → Point
next a [] = a
next a (b ∷ cs) = b

-- A sum over edges
abbrev pub total : {M : Type 0} → (M → M → M) → M → (Edge → M) → List Edge → M
total op unit g [] = unit
total op unit g (e ∷ es) = op (g e) (total op unit g es)

-- The operation: associative, commutative, with a unit
pub record Sums {M : Type 0} (op : M → M → M) (unit : M) : Type 0 where
  pub assoc : (x y z : M) → op (op x y) z ≡ op x (op y z)
  pub comm : (x y : M) → op x y ≡ op y x
  pub none : (x : M) → op unit x ≡ x

-- "and", and "one of two, and not both"
pub and_sums : Sums ◌&&◌ true
and_sums = record { assoc = and_assoc; comm = and_comm; none = λ x. refl }

pub differ_sums : Sums differ false
differ_sums = record { assoc = differ_assoc; comm = differ_comm; none = λ x. refl }

module _ {M : Type 0} (◌·◌ : M → M → M) (unit : M) (g : Edge → M) where
  infixl 70 ◌·◌
  -- The sum of a way from one corner through others to an end
  unfoldable pub way : Point → Point → List Point → M
  way end a [] = g (edge a end)
  way end a (b ∷ cs) = g (edge a b) · way end b cs

  -- The sum over the edges of a boundary
  abbrev pub around : List Point → M
  around corners = total ◌·◌ unit g (edges_of corners)

  -- The sum over one list and then another is that of the two sums
  pub total_append : Sums ◌·◌ unit → (es ds : List Edge) → total ◌·◌ unit g (es ++ ds) ≡ total ◌·◌ unit g es · total ◌·◌ unit g ds
  total_append laws [] ds = sym (laws.none (total ◌·◌ unit g ds))
  total_append laws (e ∷ es) ds =
      ap (λ (x : M). g e · x) (total_append laws es ds) ∙ sym (laws.assoc (g e) (total ◌·◌ unit g es) (total ◌·◌ unit g ds))

  module _ (laws : Sums ◌·◌ unit) (no_length_lem : (a : Point) → g (edge a a) ≡ unit) where
    -- Edges of no length change no sum
    pub total_with_length : (es : List Edge) → total ◌·◌ unit g (with_length es) ≡ total ◌·◌ unit g es
    total_with_length [] = refl
    total_with_length (e ∷ es) = at (no_length e) refl (total_with_length es)
      where
        at : (b : Bool) → no_length e ≡ b → total ◌·◌ unit g (with_length es) ≡ total ◌·◌ unit g es
            → total ◌·◌ unit g (cond b (with_length es) (e ∷ with_length es)) ≡ g e · total ◌·◌ unit g es
        at true h ih =
            let nothing : g e ≡ unit = ap (λ (a : Point). g (edge a e.end)) (one_point e h) ∙ no_length_lem e.end in
            ih ∙ sym (laws.none (total ◌·◌ unit g es)) ∙ ap (λ (x : M). x · total ◌·◌ unit g es) (sym nothing)
        at false h ih = ap (λ (x : M). g e · x) ih

    total_joined : (end a : Point) (cs : List Point) → total ◌·◌ unit g (joined end a cs) ≡ way end a cs
    unfolding way
    total_joined end a [] = laws.comm (g (edge a end)) unit ∙ laws.none (g (edge a end))
    total_joined end a (b ∷ cs) = ap (λ (x : M). g (edge a b) · x) (total_joined end b cs)

    -- The sum over a boundary is the sum of the way from its first corner through the others back
    pub around_way : (c : Point) (cs : List Point) → around (c ∷ cs) ≡ way c c cs
    unfolding edges_of
    around_way c cs = total_with_length (joined c c cs) ∙ total_joined c c cs

    -- A way is the way to a corner on it and the way from there
    way_append : (end a b : Point) (cs ds : List Point) → way end a (cs ++ (b ∷ ds)) ≡ way b a cs · way end b ds
    unfolding way
    way_append end a b [] ds = refl
    way_append end a b (c ∷ cs) ds =
        ap (λ (x : M). g (edge a c) · x) (way_append end c b cs ds) ∙ sym (laws.assoc (g (edge a c)) (way b c cs) (way end b ds))

    -- Starting at the next corner keeps the sum
    pub around_next : (c : Point) (cs : List Point) → around (c ∷ cs) ≡ around (cs ++ (c ∷ []))
    unfolding way
    around_next c [] = refl
    around_next c (d ∷ ds) =
        around_way c (d ∷ ds) ∙ laws.comm (g (edge c d)) (way c d ds) ∙ sym (way_append d d c ds [])
        ∙ sym (around_way d (ds ++ (c ∷ [])))

    -- Turning the direction keeps the sum, where an edge counts as much either way
    module _ (either : (a b : Point) → g (edge a b) ≡ g (edge b a)) where
      way_reverse : (end a : Point) (cs : List Point) → way end a cs ≡ way a end (reverse cs)
      unfolding way
      way_reverse end a [] = either a end
      way_reverse end a (b ∷ cs) =
          ap₂ ◌·◌ (either a b) (way_reverse end b cs) ∙ laws.comm (g (edge b a)) (way b end (reverse cs))
          ∙ sym (way_append a end b (reverse cs) [])
          ∙ ap (way a end) (sym (reverse-cons b cs))

      pub around_reverse : (cs : List Point) → around cs ≡ around (reverse cs)
      around_reverse [] = refl
      around_reverse (c ∷ cs) =
          around_way c cs ∙ way_reverse c c cs ∙ sym (around_way c (reverse cs)) ∙ around_next c (reverse cs)
          ∙ ap around (sym (reverse-cons c cs))

    -- A corner set after the first keeps the sum, where the edge that it is set on counts as much as the two that it makes
    pub around_set : (a p : Point) (cs : List Point) → g (edge a (next a cs)) ≡ g (edge a p) · g (edge p (next a cs))
        → around (a ∷ cs) ≡ around (a ∷ p ∷ cs)
    unfolding way
    around_set a p [] h = around_way a [] ∙ h ∙ sym (around_way a (p ∷ []))
    around_set a p (b ∷ cs) h =
        around_way a (b ∷ cs) ∙ ap (λ (x : M). x · way a b cs) h ∙ laws.assoc (g (edge a p)) (g (edge p b)) (way a b cs)
        ∙ sym (around_way a (p ∷ b ∷ cs))
