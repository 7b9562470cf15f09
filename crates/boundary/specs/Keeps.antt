-- Edges that are kept of a closed list on the way down a tree of halves: those that miss a rectangle are left out for all that is within it.
-- Assumes nothing.
use Rattle.std.specs.Prelude.{◌≡◌, refl, Bool, true, false, ◌&&◌, List, [], ◌∷◌, ◌++◌}
use Rattle.std.proofs.Common.{ap, ap₂, ◌∙◌, sym}
use Rattle.facts.specs.Tests.{differ}
use Rattle.ground.specs.declared.Point.{Point}
use Rattle.ground.specs.declared.Rectangle.{Rectangle}
use Rattle.ground.specs.Rectangles.{Within, Lies, Ordered}
use Rattle.edge.specs.Edge.{Edge, misses, crosses_east, between, turns}
use Rattle.edge.specs.MissesLaws.{misses_within}
use Rattle.edge.specs.CrossesLaws.{turns_none}
use Rattle.boundary.specs.Boundary.{point_inside, unmet}
use Rattle.boundary.specs.Sums.{total, Sums, and_sums, differ_sums}
use Rattle.boundary.specs.Closed.{oddly, Closed, inside_odd, odd_differ}

-- Edges that are kept of a list for a rectangle: a sum over the list to which an edge that misses the rectangle adds nothing is the sum over
-- them
pub record Keeps (es : List Edge) (r : Rectangle) (kept : List Edge) : Type 0 where
  pub sum : (op : Bool → Bool → Bool) (unit : Bool) → Sums op unit → (f : Edge → Bool) → ((e : Edge) → misses e r ≡ true → f e ≡ unit)
      → total op unit f es ≡ total op unit f kept

-- All are kept for each rectangle
pub keeps_all : (es : List Edge) (r : Rectangle) → Keeps es r es
keeps_all es r = record { sum = λ op unit laws f none. refl }

-- What is kept for a rectangle is kept for each within it
pub keeps_inner : {es : List Edge} {r s : Rectangle} {kept : List Edge} → Ordered r → Within r s → Keeps es s kept → Keeps es r kept
keeps_inner o h k = record { sum = λ op unit laws f none. k.sum op unit laws f (λ e t. none e (misses_within o h e t)) }

-- An edge that misses changes no sum to which it adds nothing
total_drop : (op : Bool → Bool → Bool) (unit : Bool) → Sums op unit → (f : Edge → Bool) (xs : List Edge) (e : Edge) (ys : List Edge)
    → f e ≡ unit → total op unit f (xs ++ (e ∷ ys)) ≡ total op unit f (xs ++ ys)
total_drop op unit laws f [] e ys h = ap (λ (x : Bool). op x (total op unit f ys)) h ∙ laws.none (total op unit f ys)
total_drop op unit laws f (x ∷ xs) e ys h = ap (op (f x)) (total_drop op unit laws f xs e ys h)

-- and may be left out
pub keeps_drop : {es : List Edge} {r : Rectangle} (xs : List Edge) (e : Edge) (ys : List Edge) → misses e r ≡ true
    → Keeps es r (xs ++ (e ∷ ys)) → Keeps es r (xs ++ ys)
keeps_drop xs e ys t k =
    record { sum = λ op unit laws f none. k.sum op unit laws f none ∙ total_drop op unit laws f xs e ys (none e t) }

-- Missing, for all edges of a list
pub unmet_total : (r : Rectangle) (es : List Edge) → unmet r es ≡ total ◌&&◌ true (λ e. misses e r) es
unmet_total r [] = refl
unmet_total r (e ∷ es) = ap (λ (x : Bool). misses e r && x) (unmet_total r es)

-- No edge meets the rectangle where none of those kept does
pub keeps_unmet : {es : List Edge} {r : Rectangle} {kept : List Edge} → Keeps es r kept → unmet r es ≡ unmet r kept
keeps_unmet {es} {r} {kept} k =
    unmet_total r es ∙ k.sum ◌&&◌ true and_sums (λ e. misses e r) (λ e t. t) ∙ sym (unmet_total r kept)

-- The odd count at a point of a rectangle from that at another, by the kept edges alone
pub keeps_turned : {es : List Edge} → Closed es → {r : Rectangle} {kept : List Edge} {p q : Point} → Lies r p → Lies r q → Keeps es r kept
    → point_inside q es ≡ differ (point_inside p es) (oddly (turns r.east p q) kept)
unfolding turns
keeps_turned {es} c {r} {kept} {p} {q} in_p in_q k =
    turned (point_inside p es) (point_inside q es)
    ∙ ap (differ (point_inside p es)) (sym whole ∙ k.sum differ false differ_sums (turns r.east p q) (turns_none in_p in_q))
  where
    turned : (a b : Bool) → b ≡ differ a (differ (differ a b) false)
    turned true true = refl
    turned true false = refl
    turned false true = refl
    turned false false = refl

    ends : Edge → Bool
    ends e = differ (between r.east p q e.start) (between r.east p q e.end)

    cross : Edge → Bool
    cross e = differ (crosses_east p e) (crosses_east q e)

    whole : oddly (turns r.east p q) es ≡ differ (differ (point_inside p es) (point_inside q es)) false
    whole =
        odd_differ cross ends es
        ∙ ap₂ differ
        (odd_differ (crosses_east p) (crosses_east q) es ∙ ap₂ differ (sym (inside_odd p es)) (sym (inside_odd q es)))
        (c.even (between r.east p q))
