-- Closed lists of edges: what parity needs of a boundary. A boundary's edges close, and a list made of closed ones closes; the odd count is
-- the same at any two points of ground that no edge of a closed list meets. Assumes nothing.
use Rattle.std.specs.Prelude.{ℕ, suc, ◌%◌, ◌≤◌, ◌<◌, ◌≡◌, refl, ◌≢◌, Bool, true, false, cond, not, eqb}
use Rattle.std.proofs.Common.{arith, ap, ap₂, sym, ◌∙◌, eqb-true, eq-eqb, ne_eqb}
use mathlib.Core.List.{List, [], ◌∷◌, ◌++◌}
use Rattle.std.proofs.lemmas.Bool.{eqb-false}
use Rattle.facts.specs.Tests.{both, differ, differ_self, differ_none, exchange, chain}
use Rattle.facts.specs.Lists.{Each}
use Rattle.ground.specs.declared.Point.{Point}
use Rattle.ground.specs.declared.Rectangle.{Rectangle}
use Rattle.ground.specs.Rectangles.{Lies}
use Rattle.edge.specs.Edge.{Edge, edge, no_length, misses, crosses_east, low, between}
use Rattle.edge.specs.MissesLaws.{one_point, missed}
use Rattle.edge.specs.CrossesLaws.{tells, west_none, below_none, above_none, east_counts}
use Rattle.boundary.specs.Boundary.{joined, with_length, edges_of, count_east, point_inside, unmet}
use Rattle.boundary.specs.Sums.{total, total_append, differ_sums}

-- An odd number of a list's edges pass a test
abbrev pub oddly : (Edge → Bool) → List Edge → Bool
oddly f es = total differ false f es

-- Edges close: a test of corners tells the ends of an even number of them apart
pub record Closed (es : List Edge) : Type 0 where
  pub even : (g : Point → Bool) → oddly (λ e. differ (g e.start) (g e.end)) es ≡ false

-- A list made of two closed ones closes
pub closed_append : {es ds : List Edge} → Closed es → Closed ds → Closed (es ++ ds)
closed_append {es} {ds} c d =
    record {
      even = λ g.
          total_append differ false (λ e. differ (g e.start) (g e.end)) differ_sums es ds ∙ ap₂ differ (c.even g) (d.even g);
    }

module _ (g : Point → Bool) where
  -- A test of corners tells the ends of an edge apart
  abbrev apart : Edge → Bool
  apart e = differ (g e.start) (g e.end)

  step : (e : Edge) (es : List Edge) (last : Point) → oddly apart es ≡ differ (g e.end) (g last)
      → oddly apart (cond (no_length e) es (e ∷ es)) ≡ differ (g e.start) (g last)
  step e es last ih = at (no_length e) refl
    where
      at : (b : Bool) → no_length e ≡ b → oddly apart (cond b es (e ∷ es)) ≡ differ (g e.start) (g last)
      at true k = ih ∙ ap (λ (v : Point). differ (g v) (g last)) (sym (one_point e k))
      at false k = ap (differ (apart e)) ih ∙ chain (g e.start) (g e.end) (g last)

  around : (first here : Point) (rest : List Point) → oddly apart (with_length (joined first here rest)) ≡ differ (g here) (g first)
  around first here [] = step (edge here first) [] first (sym (differ_self (g first)))
  around first here (next ∷ rest) = step (edge here next) (with_length (joined first next rest)) first (around first next rest)

-- The edges of a boundary close
pub edges_closed : (corners : List Point) → Closed (edges_of corners)
unfolding edges_of
edges_closed [] = record { even = λ g. refl }
edges_closed (c ∷ cs) = record { even = λ g. around g c c cs ∙ differ_self (g c) }

-- A point is inside when an odd number of edges cross east of it
pub inside_odd : (p : Point) (es : List Edge) → point_inside p es ≡ oddly (crosses_east p) es
inside_odd p [] = refl
inside_odd p (e ∷ es) = at (crosses_east p e) (inside_odd p es)
  where
    odd_more : (n : ℕ) (b : Bool) → eqb (n % 2) 1 ≡ b → eqb (suc n % 2) 1 ≡ not b
    odd_more n true e = let h : n % 2 ≡ 1 = eqb-true (n % 2) 1 e in ne_eqb (suc n % 2) 1 (λ k. omega arith)
    odd_more n false e = let h : n % 2 ≢ 1 = eqb-false (n % 2) 1 e in eq-eqb (suc n % 2) 1 (omega arith)

    at : (b : Bool) → point_inside p es ≡ oddly (crosses_east p) es
        → eqb (cond b (suc (count_east p es)) (count_east p es) % 2) 1 ≡ differ b (oddly (crosses_east p) es)
    at true ih = odd_more (count_east p es) (oddly (crosses_east p) es) ih
    at false ih = ih

-- Two tests at once
pub odd_differ : (f g : Edge → Bool) (es : List Edge) → oddly (λ e. differ (f e) (g e)) es ≡ differ (oddly f es) (oddly g es)
odd_differ f g [] = refl
odd_differ f g (e ∷ es) = ap (differ (differ (f e) (g e))) (odd_differ f g es) ∙ exchange (f e) (g e) (oddly f es) (oddly g es)

-- Two tests that say the same of each edge are passed by as many
odd_same : (f h : Edge → Bool) (es : List Edge) → Each (λ (e : Edge). f e ≡ h e) es → oddly f es ≡ oddly h es
odd_same f h [] t = refl
odd_same f h (e ∷ es) t = ap₂ differ t.0 (odd_same f h es t.1)

-- Round a closed list, a test of an edge that tells its ends apart is passed by an even number of edges
pub even_around : (f : Edge → Bool) (g : Point → Bool) {es : List Edge} → Closed es
    → Each (λ (e : Edge). f e ≡ differ (g e.start) (g e.end)) es → oddly f es ≡ false
even_around f g {es} c t = odd_same f (λ e. differ (g e.start) (g e.end)) es t ∙ c.even g

module _ {r : Rectangle} {p q : Point} (in_p : Lies r p) (in_q : Lies r q) where
  all_tell : (es : List Edge) → unmet r es ≡ true
      → Each (λ (e : Edge). differ (crosses_east p e) (crosses_east q e) ≡ differ (between r.east p q e.start) (between r.east p q e.end)) es
  all_tell [] t = tt
  all_tell (e ∷ es) t = let ts = both (misses e r) (unmet r es) t in (tells in_p in_q e (missed e r ts.0), all_tell es ts.1)

  -- The odd count is the same at any two points of a rectangle that no edge meets, its east and north sides left out
  pub same_inside : {es : List Edge} → Closed es → unmet r es ≡ true → point_inside p es ≡ point_inside q es
  same_inside {es} c t =
      inside_odd p es
      ∙ differ_none (oddly (crosses_east p) es) (oddly (crosses_east q) es)
      (sym (odd_differ (crosses_east p) (crosses_east q) es)
      ∙ even_around (λ (e : Edge). differ (crosses_east p e) (crosses_east q e)) (between r.east p q) c (all_tell es t))
      ∙ sym (inside_odd q es)

-- Both ends of an edge are such
abbrev pub Ends : (Point → Type 0) → Edge → Type 0
Ends P e = P e.start × P e.end

-- What holds of each corner holds of the ends of each edge
module _ (P : Point → Type 0) where
  ends_more : (b : Bool) (e : Edge) (es : List Edge) → Ends P e → Each (Ends P) es → Each (Ends P) (cond b es (e ∷ es))
  ends_more true e es h t = t
  ends_more false e es h t = (h, t)

  ends_joined : (first here : Point) (rest : List Point) → P first → P here → Each P rest → Each (Ends P) (with_length (joined first here rest))
  ends_joined first here [] h k t = ends_more (no_length (edge here first)) (edge here first) [] (k, h) tt
  ends_joined first here (next ∷ rest) h k t =
      ends_more (no_length (edge here next)) (edge here next) (with_length (joined first next rest)) (k, t.0)
      (ends_joined first next rest h t.0 t.1)

  pub ends_edges : (corners : List Point) → Each P corners → Each (Ends P) (edges_of corners)
  unfolding edges_of
  ends_edges [] t = tt
  ends_edges (c ∷ cs) t = ends_joined c c cs t.0 t.0 t.1

module _ (p : Point) {es : List Edge} (closed : Closed es) where
  -- Where the edges that count tell their ends apart, the count is even
  even : (P : Point → Type 0) (g : Point → Bool)
      → ((e : Edge) → P e.start → P e.end → crosses_east p e ≡ differ (g e.start) (g e.end))
      → Each (Ends P) es → point_inside p es ≡ false
  even P g so t = inside_odd p es ∙ even_around (crosses_east p) g closed (each es t)
    where
      each : (ds : List Edge) → Each (Ends P) ds → Each (λ (e : Edge). crosses_east p e ≡ differ (g e.start) (g e.end)) ds
      each [] t = tt
      each (e ∷ ds) t = (so e t.0.0 t.0.1, each ds t.1)

  -- A point west of every corner is not inside
  pub west_apart : Each (Ends (λ (v : Point). p.lon.0 < v.lon.0)) es → point_inside p es ≡ false
  west_apart = even (λ v. p.lon.0 < v.lon.0) (λ v. low v p) (λ e h k. east_counts e p h k)

  -- nor one east of every corner
  pub east_apart : Each (Ends (λ (v : Point). v.lon.0 ≤ p.lon.0)) es → point_inside p es ≡ false
  east_apart = even (λ v. v.lon.0 ≤ p.lon.0) (λ v. false) (λ e h k. west_none e p h k)

  -- nor one south of every corner
  pub south_apart : Each (Ends (λ (v : Point). p.lat.0 < v.lat.0)) es → point_inside p es ≡ false
  south_apart = even (λ v. p.lat.0 < v.lat.0) (λ v. false) (λ e h k. above_none e p h k)

  -- nor one north of every corner
  pub north_apart : Each (Ends (λ (v : Point). v.lat.0 ≤ p.lat.0)) es → point_inside p es ≡ false
  north_apart = even (λ v. v.lat.0 ≤ p.lat.0) (λ v. false) (λ e h k. below_none e p h k)
