-- Edges of a ring meet where they do when it is started at the next edge, turned, or has a corner set on an edge. Assumes nothing.
use Rattle.std.specs.Prelude.{◌≡◌, refl, Bool, true, false, ◌||◌, List, [], ◌∷◌, ◌++◌}
use Rattle.std.proofs.Common.{ap, ap₂, ◌∙◌, sym, subst}
use Rattle.std.proofs.Math.Bool.{or_assoc, or_comm, or-false, or-true}
use Rattle.ground.specs.declared.Point.{Point}
use Rattle.edge.specs.Edge.{Edge, edge, OnEdge}
use Rattle.edge.specs.OnEdgeLaws.{on_start, Apart, apart_back}
use Rattle.pair.specs.Pair.{share_point, share_more}
use Rattle.pair.specs.PairLaws.{share_comm, share_back}
use Rattle.pair.specs.ShareLaws.{share_set}
use Rattle.pair.specs.MoreLaws.{more_back, more_none, more_returns, more_after, more_before}
use Rattle.crossed.specs.Around.{shares, ahead, behind, openly, returning, closely}
use Rattle.crossed.specs.Chains.{Chain, ended, link, turn, back, chain_back, back_back}

-- Of four tests, the middle two may change places
or_exchange : (a b c d : Bool) → ((a || b) || (c || d)) ≡ ((a || c) || (b || d))
or_exchange a b c d = simp (or_assoc, left_comm)
  where
    left_comm : (a b c : Bool) → (a || (b || c)) ≡ (b || (a || c))
    left_comm true true c = refl
    left_comm true false c = refl
    left_comm false true c = refl
    left_comm false false c = refl

-- An edge shares a point with one of some and one more where it does with one of them, or with that
shares_last : (e : Edge) (fs : List Edge) (l : Edge) → shares e (fs ++ (l ∷ [])) ≡ (shares e fs || share_point e l)
shares_last e [] l = or-false (share_point e l)
shares_last e (f ∷ fs) l =
    ap (λ (t : Bool). share_point e f || t) (shares_last e fs l) ∙ sym (or_assoc (share_point e f) (shares e fs) (share_point e l))

-- It meets one behind it where it meets the last, or shares a point with one before
behind_last : (e : Edge) (fs : List Edge) (l : Edge) → behind e (fs ++ (l ∷ [])) ≡ (shares e fs || share_more l e)
behind_last e [] l = refl
behind_last e (f ∷ []) l = ap (λ (t : Bool). t || share_more l e) (sym (or-false (share_point e f)))
behind_last e (f ∷ g ∷ gs) l =
    ap (λ (t : Bool). share_point e f || t) (behind_last e (g ∷ gs) l)
    ∙ sym (or_assoc (share_point e f) (shares e (g ∷ gs)) (share_more l e))

-- Two edges of an open way and one more meet where two of the way do, or that meets one behind it
openly_last : (es : List Edge) (l : Edge) → openly (es ++ (l ∷ [])) ≡ (openly es || behind l es)
openly_last [] l = refl
openly_last (f ∷ []) l = or-false (share_more f l || false) ∙ or-false (share_more f l)
openly_last (f ∷ g ∷ gs) l =
    ap₂ ◌||◌
    (ap (λ (t : Bool). share_more f g || t) (shares_last f gs l ∙ ap (λ (t : Bool). shares f gs || t) (share_comm f l))
    ∙ sym (or_assoc (share_more f g) (shares f gs) (share_point l f)))
    (openly_last (g ∷ gs) l)
    ∙ or_exchange (ahead f (g ∷ gs)) (share_point l f) (openly (g ∷ gs)) (behind l (g ∷ gs))

-- Edges there and back share more than a corner
there_back : {a b : Point} → Apart a b → share_more (edge a b) (edge b a) ≡ true
there_back {a} {b} h = more_returns (on_start a b) h

-- An edge meets one of those that return to it where it meets one ahead, or the last
returning_last : {a b c : Point} {es : List Edge} → Apart a b → Chain b c es → Apart c a
    → returning (edge a b) (es ++ (edge c a ∷ [])) ≡ (ahead (edge a b) es || share_more (edge c a) (edge a b))
returning_last h ended k = or-false (share_more (edge _ _) (edge _ _)) ∙ there_back h ∙ sym (there_back k)
returning_last {a} {b} {c} h (link {b = d} {es = es} l w) k =
    ap (λ (t : Bool). share_more (edge a b) (edge b d) || t) (behind_last (edge a b) es (edge c a))
    ∙ sym (or_assoc (share_more (edge a b) (edge b d)) (shares (edge a b) es) (share_more (edge c a) (edge a b)))

-- Two edges of a ring meet where they do when it is started at the next edge
pub closely_next : {a b : Point} {es : List Edge} → Apart a b → Chain b a es → closely (edge a b ∷ es) ≡ closely (es ++ (edge a b ∷ []))
closely_next h ended = refl
closely_next {a} {b} h (link {b = c} {es = es} k w) =
    or_comm (returning (edge a b) (edge b c ∷ es)) (openly (edge b c ∷ es))
    ∙ or_exchange (ahead (edge b c) es) (openly es) (share_more (edge a b) (edge b c)) (behind (edge a b) es)
    ∙ sym (ap₂ ◌||◌ (returning_last k w h) (openly_last es (edge a b)))

-- Edges share a point where they do when both are turned
share_turn : (e f : Edge) → share_point (turn e) (turn f) ≡ share_point e f
share_turn e f =
    share_back e.end e.start (turn f) ∙ share_comm e (turn f) ∙ share_back f.end f.start e
    ∙ share_comm f e

-- and so with one of some
shares_back : (e : Edge) (fs : List Edge) → shares (turn e) (back fs) ≡ shares e fs
shares_back e [] = refl
shares_back e (f ∷ fs) =
    shares_last (turn e) (back fs) (turn f) ∙ ap₂ ◌||◌ (shares_back e fs) (share_turn e f) ∙ or_comm (shares e fs) (share_point e f)

-- On a chain turned, an edge has behind it what it had ahead
behind_back : (a : Point) {b c : Point} {es : List Edge} → Chain b c es → behind (edge b a) (back es) ≡ ahead (edge a b) es
behind_back a ended = refl
behind_back a {b} (link {b = d} {es = es} h w) =
    behind_last (edge b a) (back es) (edge d b) ∙ ap₂ ◌||◌ (shares_back (edge a b) es) (more_back d b a)
    ∙ or_comm (shares (edge a b) es) (share_more (edge a b) (edge b d))

-- and ahead what it had behind it
ahead_back : (b : Point) {a c : Point} {es : List Edge} → Chain c a es → ahead (edge b a) (back es) ≡ behind (edge a b) es
ahead_back b {a} {es = es} w = sym (behind_back b (chain_back w)) ∙ ap (behind (edge a b)) (back_back es)

-- Two edges of an open way meet where they do when it is turned
openly_back : {a b : Point} {es : List Edge} → Chain a b es → openly (back es) ≡ openly es
openly_back ended = refl
openly_back (link {a = a} {b = b} {es = es} h w) =
    openly_last (back es) (edge b a) ∙ ap₂ ◌||◌ (openly_back w) (behind_back a w) ∙ or_comm (openly es) (ahead (edge a b) es)

-- An edge meets one of those that return to it where it does when all are turned
returning_back : {a b : Point} {es : List Edge} → Apart a b → Chain b a es → returning (edge b a) (back es) ≡ returning (edge a b) es
returning_back h ended = refl
returning_back {a} {b} h (link {b = c} {es = es} k w) =
    returning_last (apart_back h) (chain_back w) (apart_back k) ∙ ap₂ ◌||◌ (ahead_back b w) (more_back c b a)
    ∙ or_comm (behind (edge a b) es) (share_more (edge a b) (edge b c))

-- Two edges of a ring meet where they do when it is turned
pub closely_back : {a b : Point} {es : List Edge} → Chain a b es → a ≡ b → closely (back es) ≡ closely es
closely_back ended e = refl
closely_back (link {b = b} {es = es} h w) e =
    let ring = subst (λ (x : Point). Chain b x es) (sym e) w in
    sym (closely_next (apart_back h) (chain_back ring)) ∙ ap₂ ◌||◌ (returning_back h ring) (openly_back w)

-- An edge meets one behind it where its part from the start does, or its other part shares a point with one
behind_set : {a p b c : Point} {es : List Edge} → OnEdge a p b → Apart a p → Apart p b → Chain c a es
    → behind (edge a b) es ≡ (behind (edge a p) es || shares (edge p b) es)
behind_set on h k ended = refl
behind_set {a} {p} {b} on h k (link {a = z} l ended) =
    more_before on h z
    ∙ ap (λ (t : Bool). share_more (edge z a) (edge a p) || t) (sym (or-false (share_point (edge p b) (edge z a))))
behind_set {a} {p} {b} on h k (link {a = y} {b = z} l (link {b = x} {es = es} m w)) =
    ap₂ ◌||◌ (share_set on h k (edge y z)) (behind_set on h k (link m w))
    ∙ or_exchange (share_point (edge a p) (edge y z)) (share_point (edge p b) (edge y z))
    (behind (edge a p) (edge z x ∷ es)) (shares (edge p b) (edge z x ∷ es))

-- Two edges of a ring meet where they do when a corner is set on its first edge
pub closely_set : {a p b : Point} {es : List Edge} → OnEdge a p b → Apart a p → Apart p b → Chain b a es
    → closely (edge a b ∷ es) ≡ closely (edge a p ∷ edge p b ∷ es)
closely_set on h k ended = sym (ap (λ (t : Bool). t || false || false) (more_none on))
closely_set {a} {p} {b} on h k (link l ended) =
    let others = share_more (edge a p) (edge p b) || share_more (edge b a) (edge a p) in
    ap (λ (t : Bool). t || false || false) (there_back (apart_back l)) ∙ sym (or-true others)
    ∙ sym (ap (λ (t : Bool). others || (t || false || false)) (more_returns on k))
closely_set {a} {p} {b} on h k (link {b = c} l (link {b = d} {es = es} m w)) =
    let rest = edge c d ∷ es in
    let others = openly (edge b c ∷ rest) in
    let start = share_point (edge a p) (edge b c) || behind (edge a p) rest in
    let onto = ahead (edge p b) (edge b c ∷ rest) in
    ap (λ (t : Bool). t || others)
    (ap₂ ◌||◌ (more_after on k c) (behind_set on h k (link m w))
    ∙ or_exchange (share_point (edge a p) (edge b c)) (share_more (edge p b) (edge b c)) (behind (edge a p) rest) (shares (edge p b) rest))
    ∙ or_assoc start onto others
    ∙ sym (ap (λ (t : Bool). (t || start) || (onto || others)) (more_none on))
