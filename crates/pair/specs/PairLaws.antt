-- The laws of two edges: what the test for a shared point says, that the order of the edges and of their ends does not matter, and that
-- edges whose extents are apart share nothing. Assumes nothing.
use Rattle.std.specs.Prelude.{ℕ, ◌<◌, min, max, ◌≡◌, refl, ◌⊎◌, Bool, ◌||◌, leb}
use Rattle.std.proofs.Common.{arith, ap, sym, ◌∙◌, inl, inr}
use Rattle.std.proofs.Math.Path.{ap₂}
use Rattle.std.proofs.Math.Bool.{true, false, not, ◌&&◌, and_comm, or_comm}
use borrow.Author.Tests.{leb-false, lt-leb, ltb-true, lt-ltb, not-false}
use Rattle.facts.specs.Tests.{both, one_fails, fails_left, fails_right, either, either_left, either_right, same_failure}
use Rattle.ground.specs.declared.Point.{Point}
use Rattle.side.specs.Side.{left_sum, right_sum, left}
use Rattle.edge.specs.Edge.{Edge, edge, no_length, Between, OnEdge}
use Rattle.edge.specs.MissesLaws.{one_point}
use Rattle.pair.specs.Pair.{overlap, overlapping, aside_of, share_point, on_one_line, on_same_side, share_more}

-- The two directions, and how far along one a point is
pub data Way : Type 0 where
  up : Way
  across : Way

abbrev pub along : Way → Point → ℕ
along up p = p.lat.0
along across p = p.lon.0

-- What follows from a fact in each of them follows where it holds in one
pub either_along : {A : Type 0} (P : Way → Type 0) → ((w : Way) → P w → A) → P up ⊎ P across → A
either_along P f (inl h) = f up h
either_along P f (inr h) = f across h

-- A point on an edge is between its ends in each of them
pub between_along : {a p b : Point} (w : Way) → OnEdge a p b → Between (along w a) (along w p) (along w b)
between_along up on = on.lat
between_along across on = on.lon

-- Of two pairs of numbers, the first lies below the second or above it
pub data Beside (a b c d : ℕ) : Type 0 where
  below : max a b < min c d → Beside a b c d
  above : max c d < min a b → Beside a b c d

-- Two edges are apart in a direction
pub record Clear (e f : Edge) : Type 0 where
  pub way : Way
  pub beside : Beside (along way e.start) (along way e.end) (along way f.start) (along way f.end)

-- Two edges share no point: they are apart in a direction, or one lies strictly on one side of the other's line
pub data Unshared (e f : Edge) : Type 0 where
  clear : Clear e f → Unshared e f
  aside : aside_of e f ≡ true → Unshared e f
  aside_by : aside_of f e ≡ true → Unshared e f

-- A point lies strictly left of a line
abbrev pub StrictlyLeft : Point → Point → Point → Type 0
StrictlyLeft a b q = right_sum a b q < left_sum a b q

-- Both ends of an edge lie strictly on one side of another's line
pub data Sided (e f : Edge) : Type 0 where
  on_left : StrictlyLeft e.start e.end f.start → StrictlyLeft e.start e.end f.end → Sided e f
  on_right : StrictlyLeft e.end e.start f.start → StrictlyLeft e.end e.start f.end → Sided e f

module _ (e f : Edge) where
  -- The test of a side
  abbrev left_both : Point → Point → Bool
  left_both a b = left a b f.start && left a b f.end

  -- What the tests say
  pub sided : aside_of e f ≡ true → Sided e f
  unfolding aside_of left
  sided t = at (either (left_both e.start e.end) (left_both e.end e.start) t)
    where
      two : (a b : Point) → left_both a b ≡ true → StrictlyLeft a b f.start × StrictlyLeft a b f.end
      two a b h =
          let ts = both (left a b f.start) (left a b f.end) h in
          let t = ltb-true (right_sum a b f.start) (left_sum a b f.start) ts.0 in
          (t, ltb-true (right_sum a b f.end) (left_sum a b f.end) ts.1)

      at : (left_both e.start e.end ≡ true) ⊎ (left_both e.end e.start ≡ true) → Sided e f
      at (inl h) = let t = two e.start e.end h in on_left t.0 t.1
      at (inr h) = let t = two e.end e.start h in on_right t.0 t.1

  -- and the other way
  pub sided_so : Sided e f → aside_of e f ≡ true
  unfolding aside_of left
  sided_so s = at s
    where
      two : (a b : Point) → StrictlyLeft a b f.start → StrictlyLeft a b f.end → left_both a b ≡ true
      two a b h k =
          ap₂ ◌&&◌ (lt-ltb (right_sum a b f.start) (left_sum a b f.start) h) (lt-ltb (right_sum a b f.end) (left_sum a b f.end) k)

      at : Sided e f → (left_both e.start e.end || left_both e.end e.start) ≡ true
      at (on_left h k) = either_left (left_both e.end e.start) (two e.start e.end h k)
      at (on_right h k) = either_right (left_both e.start e.end) (two e.end e.start h k)

-- Extents that do not overlap lie so
beside_of : (a b c d : ℕ) → overlap a b c d ≡ false → Beside a b c d
beside_of a b c d e = at (one_fails (leb (min a b) (max c d)) (leb (min c d) (max a b)) e)
  where
    at : (leb (min a b) (max c d) ≡ false) ⊎ (leb (min c d) (max a b) ≡ false) → Beside a b c d
    at (inl h) = above (leb-false (min a b) (max c d) h)
    at (inr h) = below (leb-false (min c d) (max a b) h)

-- and the other way
beside_so : (a b c d : ℕ) → Beside a b c d → overlap a b c d ≡ false
beside_so a b c d (below h) = fails_right (leb (min a b) (max c d)) (lt-leb (min c d) (max a b) h)
beside_so a b c d (above h) = fails_left (leb (min c d) (max a b)) (lt-leb (min a b) (max c d) h)

module _ (e f : Edge) where
  -- Their extents in a direction overlap
  abbrev meeting : Way → Bool
  meeting w = overlap (along w e.start) (along w e.end) (along w f.start) (along w f.end)

  -- Edges whose extents do not overlap are apart in a direction
  clear_of : overlapping e f ≡ false → Clear e f
  unfolding overlapping
  clear_of t = either_along (λ (w : Way). meeting w ≡ false) one (one_fails (meeting up) (meeting across) t)
    where
      one : (w : Way) → meeting w ≡ false → Clear e f
      one w h = record { way = w; beside = beside_of (along w e.start) (along w e.end) (along w f.start) (along w f.end) h }

  -- and the other way
  pub clear_so : Clear e f → overlapping e f ≡ false
  unfolding overlapping
  clear_so h = at h.way h.beside
    where
      at : (w : Way) → Beside (along w e.start) (along w e.end) (along w f.start) (along w f.end) → overlapping e f ≡ false
      at up k = fails_left (meeting across) (beside_so e.start.lat.0 e.end.lat.0 f.start.lat.0 f.end.lat.0 k)
      at across k = fails_right (meeting up) (beside_so e.start.lon.0 e.end.lon.0 f.start.lon.0 f.end.lon.0 k)

  -- Edges whose extents are apart share no point
  pub apart_share : overlapping e f ≡ false → share_point e f ≡ false
  unfolding share_point
  apart_share t = fails_left (not (aside_of f e)) (fails_left (not (aside_of e f)) t)

  -- What the test says of two edges that share none
  pub unshared : share_point e f ≡ false → Unshared e f
  unfolding share_point
  unshared t = at (one_fails (overlapping e f && not (aside_of e f)) (not (aside_of f e)) t)
    where
      first : (overlapping e f ≡ false) ⊎ (not (aside_of e f) ≡ false) → Unshared e f
      first (inl h) = clear (clear_of h)
      first (inr h) = aside (not-false (aside_of e f) h)

      at : ((overlapping e f && not (aside_of e f)) ≡ false) ⊎ (not (aside_of f e) ≡ false) → Unshared e f
      at (inl h) = first (one_fails (overlapping e f) (not (aside_of e f)) h)
      at (inr h) = aside_by (not-false (aside_of f e) h)

  -- and the other way
  pub unshared_so : Unshared e f → share_point e f ≡ false
  unfolding share_point
  unshared_so (clear h) = apart_share (clear_so h)
  unshared_so (aside h) = fails_left (not (aside_of f e)) (fails_right (overlapping e f) (ap not h))
  unshared_so (aside_by h) = fails_right (overlapping e f && not (aside_of e f)) (ap not h)

-- The order of the edges does not matter
pub beside_comm : {a b c d : ℕ} → Beside a b c d → Beside c d a b
beside_comm (below h) = above h
beside_comm (above h) = below h

unshared_comm : {e f : Edge} → Unshared e f → Unshared f e
unshared_comm (clear h) = clear (record { way = h.way; beside = beside_comm h.beside })
unshared_comm (aside h) = aside_by h
unshared_comm (aside_by h) = aside h

pub overlapping_comm : (e f : Edge) → overlapping e f ≡ overlapping f e
unfolding overlapping
overlapping_comm e f = ap₂ ◌&&◌ (one up) (one across)
  where
    one : (w : Way) → meeting e f w ≡ meeting f e w
    one w =
        and_comm (leb (min (along w e.start) (along w e.end)) (max (along w f.start) (along w f.end)))
        (leb (min (along w f.start) (along w f.end)) (max (along w e.start) (along w e.end)))

pub share_comm : (e f : Edge) → share_point e f ≡ share_point f e
share_comm e f =
    same_failure (λ t. unshared_so f e (unshared_comm (unshared e f t))) (λ t. unshared_so e f (unshared_comm (unshared f e t)))

-- Nor does the order of an edge's ends
pub beside_back : {a b c d : ℕ} → Beside a b c d → Beside b a c d
beside_back (below h) = below (omega (arith, h))
beside_back (above h) = above (omega (arith, h))

pub clear_back : {a b : Point} {f : Edge} → Clear (edge a b) f → Clear (edge b a) f
clear_back h = record { way = h.way; beside = beside_back h.beside }

-- for the sides of its line, or of another's
pub aside_back : (a b : Point) (f : Edge) → aside_of (edge a b) f ≡ aside_of (edge b a) f
unfolding aside_of
aside_back a b f = or_comm (left a b f.start && left a b f.end) (left b a f.start && left b a f.end)

pub aside_ends : (a b : Point) (f : Edge) → aside_of f (edge a b) ≡ aside_of f (edge b a)
unfolding aside_of
aside_ends a b f = ap₂ ◌||◌ (one f.start f.end) (one f.end f.start)
  where
    one : (c d : Point) → (left c d a && left c d b) ≡ (left c d b && left c d a)
    one c d = and_comm (left c d a) (left c d b)

-- so edges that share no point share none either way
pub unshared_back : {a b : Point} {f : Edge} → Unshared (edge a b) f → Unshared (edge b a) f
unshared_back (clear h) = clear (clear_back h)
unshared_back {a} {b} {f} (aside h) = aside (sym (aside_back a b f) ∙ h)
unshared_back {a} {b} {f} (aside_by h) = aside_by (sym (aside_ends a b f) ∙ h)

pub share_back : (a b : Point) (f : Edge) → share_point (edge a b) f ≡ share_point (edge b a) f
share_back a b f =
    same_failure (λ t. unshared_so (edge b a) f (unshared_back (unshared (edge a b) f t)))
    (λ t. unshared_so (edge a b) f (unshared_back (unshared (edge b a) f t)))

-- Edges whose extents are apart share no more than a corner: where one follows the other their extents overlap
pub apart_more : (e f : Edge) → overlapping e f ≡ false → share_more e f ≡ false
unfolding share_more
apart_more e f t = at (no_length (edge e.end f.start)) refl
  where
    none : Clear e f → e.end ≡ f.start → ⊥
    none h k = same h.way h.beside (ap (along h.way) k)
      where
        same : (w : Way) → Beside (along w e.start) (along w e.end) (along w f.start) (along w f.end)
            → along w e.end ≡ along w f.start → ⊥
        same w (below l) m = omega arith
        same w (above l) m = omega arith

    at : (i : Bool) → no_length (edge e.end f.start) ≡ i
        → (i && on_one_line e.start e.end f.end && on_same_side e.start e.end f.end) ≡ false
    at true h = absurd (none (clear_of e f t) (one_point (edge e.end f.start) h))
    at false h = refl
