-- Edges in order around a ring: which of them meet, by their order alone, and that this is what makes a boundary crossed. Assumes nothing.
use Rattle.std.specs.Prelude.{ℕ, Option, Some, None, suc, ◌≤◌, ◌<◌, ◌≡◌, refl, Bool, true, false, cond, ◌||◌, List, [], ◌∷◌, get_or}
use Rattle.std.proofs.Common.{arith, ap₂, ◌∙◌}
use Rattle.std.proofs.Math.Bool.{or-false}
use borrow.Author.Tests.{eq-eqb, ne_eqb}
use Rattle.ground.specs.declared.Point.{Point}
use Rattle.edge.specs.Edge.{Edge, no_length}
use Rattle.boundary.specs.Boundary.{joined, with_length, edges_of, places_from, places_of}
use Rattle.pair.specs.Pair.{share_point, share_more}
use Rattle.crossed.specs.Crossed.{Placed, placed, placed_of, meet, or_else, first_later, first_pair, pair_of, is_pair, crossed}

-- An edge shares a point with one of some others
abbrev pub shares : Edge → List Edge → Bool
shares e [] = false
shares e (f ∷ fs) = share_point e f || shares e fs

-- An edge meets one of those after it on an open way, of which the first follows it
abbrev pub ahead : Edge → List Edge → Bool
ahead e [] = false
ahead e (f ∷ fs) = share_more e f || shares e fs

-- An edge meets one of those before it on an open way, of which it follows the last
abbrev pub behind : Edge → List Edge → Bool
behind e [] = false
behind e (f ∷ []) = share_more f e
behind e (f ∷ g ∷ gs) = share_point e f || behind e (g ∷ gs)

-- Two edges of an open way meet
abbrev pub openly : List Edge → Bool
openly [] = false
openly (e ∷ es) = ahead e es || openly es

-- An edge meets one of those that return from its end to its start
abbrev pub returning : Edge → List Edge → Bool
returning e [] = false
returning e (f ∷ fs) = share_more e f || behind e fs

-- Two edges of a ring meet
abbrev pub closely : List Edge → Bool
closely [] = false
closely (e ∷ es) = returning e es || openly es

-- Places in increasing order from one on, a place for each edge
data Numbered : ℕ → List ℕ → List Edge → Type 0 where
  none : {i : ℕ} → Numbered i [] []
  one : {i j : ℕ} {js : List ℕ} {e : Edge} {es : List Edge} → i ≤ j → Numbered (suc j) js es → Numbered i (j ∷ js) (e ∷ es)

-- which are so from any earlier one on
numbered_from_lem : {i j : ℕ} {js : List ℕ} {es : List Edge} → i ≤ j → Numbered j js es → Numbered i js es
numbered_from_lem h none = none
numbered_from_lem {i} h (one {j = j} k r) = one {i = i} {j = j} (omega arith) r

-- The places of edges that have a length are such
numbered : (i : ℕ) (es : List Edge) → Numbered i (places_from i es) (with_length es)
numbered i [] = none
numbered i (e ∷ es) = at (no_length e) (numbered (suc i) es)
  where
    at : (b : Bool) → Numbered (suc i) (places_from (suc i) es) (with_length es)
        → Numbered i (cond b (places_from (suc i) es) (i ∷ places_from (suc i) es)) (cond b (with_length es) (e ∷ with_length es))
    at true r = numbered_from_lem (omega arith) r
    at false r = one {i = i} {j = i} (omega arith) r

-- A pair is found in one place or else in another
pair_else : (m n : Option (ℕ × ℕ)) → is_pair (or_else m n) ≡ (is_pair m || is_pair n)
pair_else (Some pair) n = refl
pair_else None n = refl

module _ (e f : Placed) where
  -- Two edges of which the second follows the first
  pub meet_next : f.place ≡ e.next → meet e f ≡ share_more e.line f.line
  unfolding meet
  meet_next h = rw (eq-eqb f.place e.next h)

  -- of which the first alone follows the second
  pub meet_last : (f.place ≡ e.next → ⊥) → e.place ≡ f.next → meet e f ≡ share_more f.line e.line
  unfolding meet
  meet_last h k = rw (ne_eqb f.place e.next h, eq-eqb e.place f.next k)

  -- and of which neither follows the other
  pub meet_other : (f.place ≡ e.next → ⊥) → (e.place ≡ f.next → ⊥) → meet e f ≡ share_point e.line f.line
  unfolding meet
  meet_other h k = rw (ne_eqb f.place e.next h, ne_eqb e.place f.next k)

  -- A pair of an edge and a later one is found where it meets the first of these, or with the others
  pair_later : (fs : List Placed) {b c : Bool} → meet e f ≡ b → is_pair (first_later e fs) ≡ c → is_pair (first_later e (f ∷ fs)) ≡ (b || c)
  pair_later fs p q = at (meet e f) ∙ ap₂ ◌||◌ p q
    where
      at : (b : Bool) → is_pair (cond b (Some (e.place, f.place)) (first_later e fs)) ≡ (b || is_pair (first_later e fs))
      at true = refl
      at false = refl

-- An edge by its two places
abbrev put : Edge → ℕ → ℕ → Placed
put e i n = record { line = e; place = i; next = n }

-- The place after some is a later one, or the first
next_other : {first i m : ℕ} {js : List ℕ} {es : List Edge} → first < i → i < m → Numbered m js es → i ≡ get_or js 0 first → ⊥
next_other h k none e = omega arith
next_other h k (one l r) e = omega arith

-- An edge that is not the first is in a pair with one past the next where it shares a point with one of them
pair_shares : (e : Edge) (first i n : ℕ) {m : ℕ} {js : List ℕ} {fs : List Edge} → first < i → i < n → n < m → Numbered m js fs
    → is_pair (first_later (put e i n) (placed first js fs)) ≡ shares e fs
pair_shares e first i n h k l none = refl
pair_shares e first i n h k l (one {j = j} {js = js} {e = f} {es = fs} o r) =
    let after = put f j (get_or js 0 first) in
    pair_later (put e i n) after (placed first js fs)
    (meet_other (put e i n) after (λ q. omega arith) (next_other {m = suc j} h (omega arith) r))
    (pair_shares e first i n {m = suc j} h k (omega arith) r)

-- It is in a pair with a later one where it meets one ahead
pair_ahead : (e : Edge) (first i : ℕ) {js : List ℕ} {fs : List Edge} → first < i → Numbered (suc i) js fs
    → is_pair (first_later (put e i (get_or js 0 first)) (placed first js fs)) ≡ ahead e fs
pair_ahead e first i h none = refl
pair_ahead e first i h (one {j = j} {js = js} {e = f} {es = fs} l r) =
    let after = put f j (get_or js 0 first) in
    pair_later (put e i j) after (placed first js fs) (meet_next (put e i j) after refl)
    (pair_shares e first i j {m = suc j} h (omega arith) (omega arith) r)

-- Edges after the first have a pair where two of an open way meet
pair_openly : (first : ℕ) {m : ℕ} {js : List ℕ} {es : List Edge} → first < m → Numbered m js es
    → is_pair (first_pair (placed first js es)) ≡ openly es
pair_openly first h none = refl
pair_openly first h (one {j = j} {js = js} {e = e} {es = es} l r) =
    pair_else (first_later (put e j (get_or js 0 first)) (placed first js es)) (first_pair (placed first js es))
    ∙ ap₂ ◌||◌ (pair_ahead e first j (omega arith) r) (pair_openly first {m = suc j} (omega arith) r)

-- The first edge is in a pair with one past the next where it meets one behind it
pair_behind : (e : Edge) (first n : ℕ) {m : ℕ} {js : List ℕ} {fs : List Edge} → first < n → n < m → Numbered m js fs
    → is_pair (first_later (put e first n) (placed first js fs)) ≡ behind e fs
pair_behind e first n h k none = refl
pair_behind e first n h k (one {j = j} {e = f} l none) =
    pair_later (put e first n) (put f j first) [] (meet_last (put e first n) (put f j first) (λ q. omega arith) refl) refl
    ∙ or-false (share_more f e)
pair_behind e first n h k (one {j = i} {e = f} l (one {j = j} {js = js} {e = g} {es = gs} o r)) =
    pair_later (put e first n) (put f i j) (placed first (j ∷ js) (g ∷ gs))
    (meet_other (put e first n) (put f i j) (λ q. omega arith) (λ q. omega arith))
    (pair_behind e first n {m = suc i} h (omega arith) (one o r))

-- It is in a pair with a later one where it meets one of those that return
pair_returning : (e : Edge) (first : ℕ) {js : List ℕ} {fs : List Edge} → Numbered (suc first) js fs
    → is_pair (first_later (put e first (get_or js 0 first)) (placed first js fs)) ≡ returning e fs
pair_returning e first none = refl
pair_returning e first (one {j = j} {js = js} {e = f} {es = fs} l r) =
    let after = put f j (get_or js 0 first) in
    pair_later (put e first j) after (placed first js fs) (meet_next (put e first j) after refl)
    (pair_behind e first j {m = suc j} (omega arith) (omega arith) r)

-- All edges have a pair where two of a ring meet
pair_closely : {i : ℕ} {js : List ℕ} {es : List Edge} → Numbered i js es → is_pair (first_pair (placed (get_or js 0 0) js es)) ≡ closely es
pair_closely none = refl
pair_closely (one {j = j} {js = js} {e = e} {es = es} l r) =
    pair_else (first_later (put e j (get_or js 0 j)) (placed j js es)) (first_pair (placed j js es))
    ∙ ap₂ ◌||◌ (pair_returning e j r) (pair_openly j {m = suc j} (omega arith) r)

-- A boundary is crossed where two edges of its ring meet
pub crossed_closely : (corners : List Point) → crossed corners ≡ closely (edges_of corners)
unfolding pair_of placed_of places_of edges_of
crossed_closely [] = refl
crossed_closely (c ∷ cs) = pair_closely (numbered 0 (joined c c cs))
