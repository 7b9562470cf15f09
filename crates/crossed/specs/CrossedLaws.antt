-- None of the ground's five changes makes a crossing or cures one. Assumes nothing.
use Rattle.std.proofs.Common.{arith, ap, ◌∙◌, sym, subst, inl, inr}
use Rattle.std.specs.Prelude.{◌≡◌, refl, ◌⊎◌, cond}
use mathlib.Core.List.{List, [], ◌∷◌, ◌++◌, reverse, reverse-cons, append-nil}
use Rattle.ground.specs.declared.Point.{Point}
use Rattle.edge.specs.Edge.{Edge, edge, no_length, OnEdge}
use Rattle.edge.specs.OnEdgeLaws.{Apart}
use Rattle.edge.specs.PartsLaws.{apart_or_one}
use Rattle.boundary.specs.Boundary.{joined, with_length, edges_of}
use Rattle.boundary.specs.Sums.{next}
use Rattle.boundary.specs.Changes.{SameGround}
use Rattle.boundary.specs.ChangesLaws.{same_ground}
use Rattle.crossed.specs.Crossed.{crossed}
use Rattle.crossed.specs.Around.{closely, crossed_closely}
use Rattle.crossed.specs.Chains.{Chain, dropped, kept, chain_joined, onward, joined_onward, chain_onward}
use Rattle.crossed.specs.Chains.{with_length_append, joined_last, edges_back}
use Rattle.crossed.specs.RingLaws.{closely_next, closely_back, closely_set}

-- The edges of a ring that have a length meet where they do when it is started at the next edge
with_length_next : {a b : Point} (es : List Edge) → Chain b a (with_length es)
    → closely (with_length (edge a b ∷ es)) ≡ closely (with_length es ++ with_length (edge a b ∷ []))
with_length_next {a} {b} es w = at (apart_or_one a b)
  where
    at : Apart a b ⊎ (a ≡ b) → closely (with_length (edge a b ∷ es)) ≡ closely (with_length es ++ with_length (edge a b ∷ []))
    at (inl h) = ap closely (kept h es) ∙ closely_next h w ∙ sym (ap (λ (ds : List Edge). closely (with_length es ++ ds)) (kept h []))
    at (inr e) =
        subst (λ (x : Point). closely (with_length (edge a x ∷ es)) ≡ closely (with_length es ++ with_length (edge a x ∷ []))) e
        (ap closely
        (dropped a es ∙ sym (append-nil (with_length es)) ∙ sym (ap (λ (ds : List Edge). with_length es ++ ds) (dropped a []))))

-- A boundary is crossed where it is when started at the next corner
crossed_next : (c : Point) (cs : List Point) → crossed (c ∷ cs) ≡ crossed (cs ++ (c ∷ []))
unfolding edges_of
crossed_next c [] = refl
crossed_next c (d ∷ ds) =
    crossed_closely (c ∷ d ∷ ds) ∙ with_length_next (joined c d ds) (chain_joined c d ds)
    ∙ sym (ap closely (ap with_length (joined_last d d c ds) ∙ with_length_append (joined c d ds) (edge c d ∷ [])))
    ∙ sym (crossed_closely (d ∷ ds ++ (c ∷ [])))

-- and where it is when turned
crossed_turned : (cs : List Point) → crossed cs ≡ crossed (reverse cs)
unfolding edges_of
crossed_turned [] = refl
crossed_turned (c ∷ cs) =
    crossed_closely (c ∷ cs) ∙ sym (closely_back (chain_joined c c cs) refl) ∙ sym (ap closely (edges_back c cs))
    ∙ sym (crossed_closely (c ∷ reverse cs)) ∙ crossed_next c (reverse cs) ∙ ap crossed (sym (reverse-cons c cs))

-- Where a point on an edge is apart from its start, so is its end
apart_whole : {a p b : Point} → OnEdge a p b → Apart a p → Apart a b
apart_whole on (inl h) = inl (λ e. h (omega (arith, on.lat)))
apart_whole on (inr h) = inr (λ e. h (omega (arith, on.lon)))

-- The edges of a ring that have a length meet where they do when a corner is set on its first edge
with_length_set : {a p b : Point} (es : List Edge) → OnEdge a p b → Chain b a (with_length es)
    → closely (with_length (edge a b ∷ es)) ≡ closely (with_length (edge a p ∷ edge p b ∷ es))
with_length_set {a} {p} {b} es on w = at (apart_or_one a p) (apart_or_one p b)
  where
    Same : Point → Type 0
    Same x = closely (with_length (edge a b ∷ es)) ≡ closely (with_length (edge a x ∷ edge x b ∷ es))

    at : Apart a p ⊎ (a ≡ p) → Apart p b ⊎ (p ≡ b) → Same p
    at (inr e) k = subst Same e (sym (ap closely (dropped a (edge a b ∷ es))))
    at (inl h) (inr e) =
        subst Same (sym e)
        (sym (ap (λ (ds : List Edge). closely (cond (no_length (edge a b)) ds (edge a b ∷ ds))) (dropped b es)))
    at (inl h) (inl k) =
        ap closely (kept (apart_whole on h) es) ∙ closely_set on h k w
        ∙ sym (ap closely (kept h (edge p b ∷ es) ∙ ap (λ (ds : List Edge). edge a p ∷ ds) (kept k es)))

-- A boundary is crossed where it is when a corner is set on the edge from the first
crossed_set : (a p : Point) (cs : List Point) → OnEdge a p (next a cs) → crossed (a ∷ cs) ≡ crossed (a ∷ p ∷ cs)
unfolding edges_of
crossed_set a p cs on =
    crossed_closely (a ∷ cs) ∙ ap (λ (es : List Edge). closely (with_length es)) (joined_onward a a cs)
    ∙ with_length_set (onward a cs) on (chain_onward a cs)
    ∙ sym (ap (λ (es : List Edge). closely (with_length (edge a p ∷ es))) (joined_onward a p cs))
    ∙ sym (crossed_closely (a ∷ p ∷ cs))

-- A boundary is crossed for all lists of corners of one ground, or for none
pub crossed_same : {cs ds : List Point} → SameGround cs ds → crossed cs ≡ crossed ds
crossed_same = same_ground crossed (record { started = crossed_next; turned = crossed_turned; set = crossed_set })
