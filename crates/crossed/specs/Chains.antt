-- Chains of edges: the edges of a boundary lead from its first corner through the others back, and what they are when it is started at
-- the next corner, turned, or has a corner set. Assumes nothing.
use Rattle.std.specs.Prelude.{ℕ, ◌≡◌, refl, ◌⊎◌, Bool, true, false, cond, ◌&&◌, eqb}
use Rattle.std.proofs.Common.{ap, ap₂, ◌∙◌, sym, subst, inl, inr, eqb-true, eq-eqb, ne_eqb}
use Rattle.std.proofs.Math.Bool.{and-false}
use mathlib.Core.List.{List, [], ◌∷◌, ◌++◌, reverse, reverse-cons, append-nil}
use Rattle.facts.specs.Tests.{same_truth}
use Rattle.ground.specs.declared.Point.{Point}
use Rattle.edge.specs.Edge.{Edge, edge, no_length}
use Rattle.edge.specs.MissesLaws.{no_length_lem}
use Rattle.edge.specs.OnEdgeLaws.{Apart, apart_back}
use Rattle.edge.specs.PartsLaws.{apart_or_one}
use Rattle.boundary.specs.Boundary.{joined, with_length, edges_of}
use Rattle.boundary.specs.Sums.{next}

-- A chain from one point to another: edges that have a length, each from where the one before ends
pub data Chain : Point → Point → List Edge → Type 0 where
  ended : {a : Point} → Chain a a []
  link : {a b c : Point} {es : List Edge} → Apart a b → Chain b c es → Chain a c (edge a b ∷ es)

-- An edge between points that are apart has a length
has_length : {a b : Point} → Apart a b → no_length (edge a b) ≡ false
has_length {a} {b} (inl h) = ap (λ (t : Bool). t && eqb a.lon.0 b.lon.0) (ne_eqb a.lat.0 b.lat.0 h)
has_length {a} {b} (inr h) =
    ap (λ (t : Bool). eqb a.lat.0 b.lat.0 && t) (ne_eqb a.lon.0 b.lon.0 h) ∙ and-false (eqb a.lat.0 b.lat.0)

-- so an edge from a point to itself is dropped
pub dropped : (a : Point) (es : List Edge) → with_length (edge a a ∷ es) ≡ with_length es
dropped a es = ap (λ (t : Bool). cond t (with_length es) (edge a a ∷ with_length es)) (no_length_lem a)

-- and one between points that are apart kept
pub kept : {a b : Point} → Apart a b → (es : List Edge) → with_length (edge a b ∷ es) ≡ edge a b ∷ with_length es
kept {a} {b} h es = ap (λ (t : Bool). cond t (with_length es) (edge a b ∷ with_length es)) (has_length h)

-- A chain with the edge to its start before it, if that has a length, is one
chain_from : (a b c : Point) (es : List Edge) → Chain b c (with_length es) → Chain a c (with_length (edge a b ∷ es))
chain_from a b c es w = at (apart_or_one a b)
  where
    at : Apart a b ⊎ (a ≡ b) → Chain a c (with_length (edge a b ∷ es))
    at (inl h) = subst (Chain a c) (sym (kept h es)) (link h w)
    at (inr e) = subst (λ (x : Point). Chain x c (with_length (edge x b ∷ es))) (sym e) (subst (Chain b c) (sym (dropped b es)) w)

-- The edges from a corner through others to an end are a chain
pub chain_joined : (end a : Point) (cs : List Point) → Chain a end (with_length (joined end a cs))
chain_joined end a [] = chain_from a end end [] ended
chain_joined end a (b ∷ cs) = chain_from a b end (joined end b cs) (chain_joined end b cs)

-- The edges after the first
abbrev pub onward : Point → List Point → List Edge
onward a [] = []
onward a (b ∷ cs) = joined a b cs

-- follow it
pub joined_onward : (a p : Point) (cs : List Point) → joined a p cs ≡ edge p (next a cs) ∷ onward a cs
joined_onward a p [] = refl
joined_onward a p (b ∷ cs) = refl

-- and are a chain
pub chain_onward : (a : Point) (cs : List Point) → Chain (next a cs) a (with_length (onward a cs))
chain_onward a [] = ended
chain_onward a (b ∷ cs) = chain_joined a b cs

-- Of two lists of edges one after the other, those are kept that are kept of each
pub with_length_append : (es fs : List Edge) → with_length (es ++ fs) ≡ with_length es ++ with_length fs
with_length_append [] fs = refl
with_length_append (e ∷ es) fs = at (no_length e) (with_length_append es fs)
  where
    at : (b : Bool) → with_length (es ++ fs) ≡ with_length es ++ with_length fs
        → cond b (with_length (es ++ fs)) (e ∷ with_length (es ++ fs)) ≡ cond b (with_length es) (e ∷ with_length es) ++ with_length fs
    at true h = h
    at false h = ap (λ (ds : List Edge). e ∷ ds) h

-- The edges through one corner more are those to it and the one from it
pub joined_last : (end a b : Point) (cs : List Point) → joined end a (cs ++ (b ∷ [])) ≡ joined b a cs ++ (edge b end ∷ [])
joined_last end a b [] = refl
joined_last end a b (c ∷ cs) = ap (λ (es : List Edge). edge a c ∷ es) (joined_last end c b cs)

-- An edge turned
abbrev pub turn : Edge → Edge
turn e = edge e.end e.start

-- Edges turned, from the last to the first
abbrev pub back : List Edge → List Edge
back [] = []
back (e ∷ es) = back es ++ (turn e ∷ [])

-- are those through the corners turned
joined_back : (end a : Point) (cs : List Point) → joined a end (reverse cs) ≡ back (joined end a cs)
joined_back end a [] = refl
joined_back end a (b ∷ cs) =
    ap (joined a end) (reverse-cons b cs) ∙ joined_last a end b (reverse cs)
    ∙ ap (λ (es : List Edge). es ++ (edge b a ∷ [])) (joined_back end b cs)

-- An edge has a length either way
no_length_turn : (e : Edge) → no_length (turn e) ≡ no_length e
no_length_turn e = ap₂ ◌&&◌ (same e.end.lat.0 e.start.lat.0) (same e.end.lon.0 e.start.lon.0)
  where
    same : (m n : ℕ) → eqb m n ≡ eqb n m
    same m n = same_truth (λ t. eq-eqb n m (sym (eqb-true m n t))) (λ t. eq-eqb m n (sym (eqb-true n m t)))

-- so those that are kept are kept when turned
with_length_back : (es : List Edge) → with_length (back es) ≡ back (with_length es)
with_length_back [] = refl
with_length_back (e ∷ es) =
    with_length_append (back es) (turn e ∷ [])
    ∙ ap₂ ◌++◌ (with_length_back es) (ap (λ (t : Bool). cond t [] (turn e ∷ [])) (no_length_turn e))
    ∙ at (no_length e)
  where
    at : (b : Bool) → back (with_length es) ++ cond b [] (turn e ∷ []) ≡ back (cond b (with_length es) (e ∷ with_length es))
    at true = append-nil (back (with_length es))
    at false = refl

-- A boundary whose corners after the first are turned has its edges turned
pub edges_back : (c : Point) (cs : List Point) → edges_of (c ∷ reverse cs) ≡ back (edges_of (c ∷ cs))
unfolding edges_of
edges_back c cs = ap with_length (joined_back c c cs) ∙ with_length_back (joined c c cs)

-- A chain with an edge from its end after it is one
chain_last : {a b c : Point} {es : List Edge} → Chain a b es → Apart b c → Chain a c (es ++ (edge b c ∷ []))
chain_last ended h = link h ended
chain_last (link k w) h = link k (chain_last w h)

-- A chain turned is one
pub chain_back : {a b : Point} {es : List Edge} → Chain a b es → Chain b a (back es)
chain_back ended = ended
chain_back (link h w) = chain_last (chain_back w) (apart_back h)

-- Of edges turned the last is first
back_last : (es : List Edge) (e : Edge) → back (es ++ (e ∷ [])) ≡ turn e ∷ back es
back_last [] e = refl
back_last (f ∷ fs) e = ap (λ (es : List Edge). es ++ (turn f ∷ [])) (back_last fs e)

-- and turned twice they are as they were
pub back_back : (es : List Edge) → back (back es) ≡ es
back_back [] = refl
back_back (e ∷ es) = back_last (back es) (turn e) ∙ ap (λ (ds : List Edge). e ∷ ds) (back_back es)
