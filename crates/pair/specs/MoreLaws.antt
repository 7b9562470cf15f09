-- The laws of two edges of which one follows the other: when they share more than their corner, either way round, that they do not where
-- they go on in a direction, and what a point on one of them changes. Assumes nothing.
use Rattle.std.specs.Prelude.{ℕ, ◌+◌, ◌*◌, ◌≤◌, ◌<◌, ◌≡◌, refl, ◌⊎◌, Bool, false, ◌||◌, ltb}
use Rattle.std.proofs.Common.{arith, sym, ◌∙◌, inl, inr, true≢false}
use Rattle.std.proofs.Math.Path.{ap, ap₂}
use Rattle.std.proofs.Math.Bool.{true, ◌&&◌, or_comm}
use borrow.Author.Tests.{leb-true, le-leb, ltb-true, lt-ltb}
use Rattle.facts.specs.Tests.{both, either, either_left, either_right, same_truth}
use Rattle.facts.specs.Numbers.{Compared, less, same, more, compared, product_lt, either_way}
use Rattle.ground.specs.declared.Point.{Point}
use Rattle.side.specs.Side.{left_sum, right_sum, left_or_on}
use Rattle.edge.specs.Edge.{edge, Between, OnEdge}
use Rattle.edge.specs.MissesLaws.{no_length_lem}
use Rattle.edge.specs.OnEdgeLaws.{on_other_way, SameSign, sign_other_way, sign_back, sign_lt, sign_none, Apart, apart_back, same_sign}
use Rattle.pair.specs.Pair.{share_point, on_one_line, both_beside, on_same_side, share_more}
use Rattle.pair.specs.PairLaws.{Way, up, across, along, either_along, between_along, Beside, below, above, on_left, on_right, sided_so}
use Rattle.pair.specs.PairLaws.{Unshared, clear, aside_by, unshared_so, share_comm, share_back}

-- Two numbers lie on the same side of a third
data Together (a b c : ℕ) : Type 0 where
  under : a < b → c < b → Together a b c
  over : b < a → b < c → Together a b c

-- as the test says
together : (a b c : ℕ) → both_beside a b c ≡ true → Together a b c
together a b c t = at (either (ltb a b && ltb c b) (ltb b a && ltb b c) t)
  where
    at : ((ltb a b && ltb c b) ≡ true) ⊎ ((ltb b a && ltb b c) ≡ true) → Together a b c
    at (inl h) = let ts = both (ltb a b) (ltb c b) h in under (ltb-true a b ts.0) (ltb-true c b ts.1)
    at (inr h) = let ts = both (ltb b a) (ltb b c) h in over (ltb-true b a ts.0) (ltb-true b c ts.1)

-- and the other way
together_so : (a b c : ℕ) → Together a b c → both_beside a b c ≡ true
together_so a b c (under h k) = either_left (ltb b a && ltb b c) (ap₂ ◌&&◌ (lt-ltb a b h) (lt-ltb c b k))
together_so a b c (over h k) = either_right (ltb a b && ltb c b) (ap₂ ◌&&◌ (lt-ltb b a h) (lt-ltb b c k))

-- The edges from a to b and from b to c share more than b
record More (a b c : Point) : Type 0 where
  line : left_sum a b c ≡ right_sum a b c
  way : Way
  beside : Together (along way a) (along way b) (along way c)

module _ (a b c : Point) where
  -- A and c are on the same side of b in a direction
  abbrev same_side : Way → Bool
  same_side w = both_beside (along w a) (along w b) (along w c)

  -- Of two edges with a corner in common the test asks for one line and the same side
  more_line : share_more (edge a b) (edge b c) ≡ (on_one_line a b c && on_same_side a b c)
  unfolding share_more
  more_line = ap (λ (t : Bool). t && on_one_line a b c && on_same_side a b c) (no_length_lem b)

  -- What the test says
  more_told : share_more (edge a b) (edge b c) ≡ true → More a b c
  unfolding left_or_on
  more_told t =
      let ts = both (on_one_line a b c) (on_same_side a b c) (sym more_line ∙ t) in
      let ls = both (left_or_on a b c) (left_or_on b a c) ts.0 in
      let h = leb-true (right_sum a b c) (left_sum a b c) ls.0 in
      let k = leb-true (right_sum b a c) (left_sum b a c) ls.1 in
      either_along (λ (w : Way). same_side w ≡ true) (one (omega (arith, h, k))) (either (same_side up) (same_side across) ts.1)
    where
      one : left_sum a b c ≡ right_sum a b c → (w : Way) → same_side w ≡ true → More a b c
      one e w h = record { line = e; way = w; beside = together (along w a) (along w b) (along w c) h }

  -- and the other way
  more_so : More a b c → share_more (edge a b) (edge b c) ≡ true
  unfolding left_or_on
  more_so m = more_line ∙ ap₂ ◌&&◌ line (at m.way m.beside)
    where
      line : on_one_line a b c ≡ true
      line =
          ap₂ ◌&&◌ (le-leb (right_sum a b c) (left_sum a b c) (omega (arith, m.line)))
          (le-leb (right_sum b a c) (left_sum b a c) (omega (arith, m.line)))

      at : (w : Way) → Together (along w a) (along w b) (along w c) → on_same_side a b c ≡ true
      at up h = either_left (same_side across) (together_so a.lat.0 b.lat.0 c.lat.0 h)
      at across h = either_right (same_side up) (together_so a.lon.0 b.lon.0 c.lon.0 h)

-- Two edges share more than their corner either way round
more_turned : {a b c : Point} → More a b c → More c b a
more_turned {a} {b} {c} m =
    let line : left_sum c b a ≡ right_sum c b a = omega (arith, m.line) in
    record { line = line; way = m.way; beside = at m.beside }
  where
    at : {a b c : ℕ} → Together a b c → Together c b a
    at (under h k) = under k h
    at (over h k) = over k h

pub more_back : (a b c : Point) → share_more (edge a b) (edge b c) ≡ share_more (edge c b) (edge b a)
more_back a b c =
    same_truth (λ t. more_so c b a (more_turned (more_told a b c t))) (λ t. more_so a b c (more_turned (more_told c b a t)))

-- Edges that cannot share more than their corner do not
more_not : (a b c : Point) → (More a b c → ⊥) → share_more (edge a b) (edge b c) ≡ false
more_not a b c none = at (share_more (edge a b) (edge b c)) refl
  where
    at : (i : Bool) → share_more (edge a b) (edge b c) ≡ i → share_more (edge a b) (edge b c) ≡ false
    at true t = absurd (none (more_told a b c t))
    at false t = t

-- The two parts of an edge share no more than the point between them
pub more_none : {a p b : Point} → OnEdge a p b → share_more (edge a p) (edge p b) ≡ false
more_none {a} {p} {b} on = more_not a p b (λ m. none (between_along m.way on) m.beside)
  where
    none : {a p b : ℕ} → Between a p b → Together a p b → ⊥
    none h (under k l) = omega arith
    none h (over k l) = omega arith

-- A number lies strictly between two others
pub data Onward (a b c : ℕ) : Type 0 where
  rising : a < b → b < c → Onward a b c
  falling : c < b → b < a → Onward a b c

-- as the test says
pub onward : (a b c : ℕ) → (ltb a b && ltb b c || ltb c b && ltb b a) ≡ true → Onward a b c
onward a b c t = at (either (ltb a b && ltb b c) (ltb c b && ltb b a) t)
  where
    at : ((ltb a b && ltb b c) ≡ true) ⊎ ((ltb c b && ltb b a) ≡ true) → Onward a b c
    at (inl h) = let ts = both (ltb a b) (ltb b c) h in rising (ltb-true a b ts.0) (ltb-true b c ts.1)
    at (inr h) = let ts = both (ltb c b) (ltb b a) h in falling (ltb-true c b ts.0) (ltb-true b a ts.1)

-- A number between two others does not have them on the same side
not_together : {a b c : ℕ} → Onward a b c → Together a b c → ⊥
not_together (rising h k) (under l m) = omega arith
not_together (rising h k) (over l m) = omega arith
not_together (falling h k) (under l m) = omega arith
not_together (falling h k) (over l m) = omega arith

-- nor, on one line, does it in the other direction
not_aslant : {a b c p q r : ℕ} → p * b + q * c + r * a ≡ q * a + r * b + p * c → Onward p q r → Together a b c → ⊥
not_aslant line (rising h k) (under l m) = omega (arith, line, product_lt l k, product_lt m h)
not_aslant line (rising h k) (over l m) = omega (arith, line, product_lt l k, product_lt m h)
not_aslant line (falling h k) (under l m) = omega (arith, line, product_lt l h, product_lt m k)
not_aslant line (falling h k) (over l m) = omega (arith, line, product_lt l h, product_lt m k)

-- Edges that go on in a direction share no more than their corner
pub more_onward : (a b c : Point) (w : Way) → Onward (along w a) (along w b) (along w c) → share_more (edge a b) (edge b c) ≡ false
more_onward a b c w on = more_not a b c (λ m. none m.line w m.way on m.beside)
  where
    none : left_sum a b c ≡ right_sum a b c → (w v : Way) → Onward (along w a) (along w b) (along w c)
        → Together (along v a) (along v b) (along v c) → ⊥
    none line up up h k = not_together h k
    none line up across h k = not_aslant (omega (arith, line)) h k
    none line across up h k = not_aslant (omega (arith, line)) h k
    none line across across h k = not_together h k

-- nor do they lie on one line with their ends on the same side
pub line_onward : (a b c : Point) (w : Way) → Onward (along w a) (along w b) (along w c) → (on_one_line a b c && on_same_side a b c) ≡ false
line_onward a b c w on = sym (more_line a b c) ∙ more_onward a b c w on

-- An edge that goes back over a part shares more with it
returning : (a p b : ℕ) → Between a p b → (p ≡ b → ⊥) → Together p b a
returning a p b h apart = at (compared p b)
  where
    at : Compared p b → Together p b a
    at (less k) = under k (omega arith)
    at (same e) = absurd (apart e)
    at (more k) = over k (omega arith)

pub more_returns : {a p b : Point} → OnEdge a p b → Apart p b → share_more (edge p b) (edge b a) ≡ true
more_returns {a} {p} {b} on apart = more_so p b a (either_along (λ (w : Way). along w p ≡ along w b → ⊥) one apart)
  where
    one : (w : Way) → (along w p ≡ along w b → ⊥) → More p b a
    one w h =
        let line : left_sum p b a ≡ right_sum p b a = omega (arith, on.line) in
        record { line = line; way = w; beside = returning (along w a) (along w p) (along w b) (between_along w on) h }

-- A product of two differences is not 0 where neither is
no_product : (a b c d : ℕ) → (a ≡ b → ⊥) → (c ≡ d → ⊥) → a * d + b * c ≡ a * c + b * d → ⊥
no_product a b c d h k e = at (compared a b) (compared c d)
  where
    at : Compared a b → Compared c d → ⊥
    at (same l) m = h l
    at (less l) (same m) = k m
    at (more l) (same m) = k m
    at (less l) (less m) = omega (arith, e, product_lt l m)
    at (less l) (more m) = omega (arith, e, product_lt l m)
    at (more l) (less m) = omega (arith, e, product_lt l m)
    at (more l) (more m) = omega (arith, e, product_lt l m)

-- so a point on an edge is level with an end that it is apart from only where the edge is
level : (a b p c d q : ℕ) → c * b + d * p + q * a ≡ d * a + q * b + c * p → (a ≡ b → ⊥) → (q ≡ d → ⊥) → p ≡ b → ⊥
level a b p c d q line h k e =
    let l : c * p ≡ c * b = ap (λ (x : ℕ). c * x) e in
    let m : d * p ≡ d * b = ap (λ (x : ℕ). d * x) e in
    no_product a b q d h k (omega (arith, l, m, line))

not_level : {a p b : Point} → OnEdge a p b → Apart p b → (w : Way) → (along w a ≡ along w b → ⊥) → along w p ≡ along w b → ⊥
not_level on (inl k) up h e = k e
not_level {a} {p} {b} on (inr k) up h e =
    level a.lat.0 b.lat.0 p.lat.0 a.lon.0 b.lon.0 p.lon.0 (omega (arith, on.line)) h k e
not_level {a} {p} {b} on (inl k) across h e =
    level a.lon.0 b.lon.0 p.lon.0 a.lat.0 b.lat.0 p.lat.0 (omega (arith, on.line)) h k e
not_level on (inr k) across h e = k e

-- With p between a and b and apart from b, c is on the same side of b as a is, or a and p are beside b and c
ray : (a p b c : ℕ) → Between a p b → (p ≡ b → ⊥) → Together a b c ⊎ Beside a p b c
ray a p b c h apart = at (compared p b) (either_way b c) (either_way c b)
  where
    at : Compared p b → (b ≤ c) ⊎ (c < b) → (c ≤ b) ⊎ (b < c) → Together a b c ⊎ Beside a p b c
    at (same e) l m = absurd (apart e)
    at (less k) (inl l) m = inr (below (omega arith))
    at (less k) (inr l) m = inl (under (omega arith) l)
    at (more k) l (inl m) = inr (above (omega arith))
    at (more k) l (inr m) = inl (over (omega arith) m)

module _ {a p b : Point} (on : OnEdge a p b) (apart : Apart p b) (c : Point) where
  -- The sides of c of the edge are those of its part from p on
  same_side_lem : SameSign (left_sum b a c) (right_sum b a c) (left_sum b p c) (right_sum b p c)
  same_side_lem = same_sign b p a (on_other_way on) (apart_back apart) c

  -- What an edge shares with the next one, its part from p on does
  more_part : More a b c → More p b c
  more_part m =
      let back : left_sum b a c ≡ right_sum b a c = omega (arith, m.line) in
      let line : left_sum p b c ≡ right_sum p b c = omega (arith, sign_none same_side_lem back) in
      record { line = line; way = m.way; beside = at m.way m.beside }
    where
      at : (w : Way) → Together (along w a) (along w b) (along w c) → Together (along w p) (along w b) (along w c)
      at w (under h k) = let l = not_level on apart w (λ e. omega arith) in under (omega (arith, between_along w on)) k
      at w (over h k) = let l = not_level on apart w (λ e. omega arith) in over (omega (arith, between_along w on)) k

  -- and what the part shares, the edge does
  more_whole : More p b c → More a b c
  more_whole m =
      let back : left_sum b p c ≡ right_sum b p c = omega (arith, m.line) in
      let line : left_sum a b c ≡ right_sum a b c = omega (arith, sign_none (sign_back same_side_lem) back) in
      record { line = line; way = m.way; beside = at m.way m.beside }
    where
      at : (w : Way) → Together (along w p) (along w b) (along w c) → Together (along w a) (along w b) (along w c)
      at w (under h k) = under (omega (arith, between_along w on)) k
      at w (over h k) = over (omega (arith, between_along w on)) k

  -- Where an edge shares no more than b with the next one, its part to p shares no point with that
  more_or_none : More a b c ⊎ Unshared (edge a p) (edge b c)
  more_or_none = at (compared (left_sum a b c) (right_sum a b c))
    where
      one : left_sum a b c ≡ right_sum a b c → (w : Way) → (along w p ≡ along w b → ⊥) → More a b c ⊎ Unshared (edge a p) (edge b c)
      one e w h = so (ray (along w a) (along w p) (along w b) (along w c) (between_along w on) h)
        where
          so : Together (along w a) (along w b) (along w c) ⊎ Beside (along w a) (along w p) (along w b) (along w c)
              → More a b c ⊎ Unshared (edge a p) (edge b c)
          so (inl k) = inl (record { line = e; way = w; beside = k })
          so (inr k) = inr (clear (record { way = w; beside = k }))

      at : Compared (left_sum a b c) (right_sum a b c) → More a b c ⊎ Unshared (edge a p) (edge b c)
      at (same e) = either_along (λ (w : Way). along w p ≡ along w b → ⊥) (one e) apart
      at (less h) =
          let k : right_sum b p c < left_sum b p c = sign_lt same_side_lem (omega (arith, h)) in
          inr (aside_by (sided_so (edge b c) (edge a p) (on_right (omega (arith, h)) (omega (arith, k)))))
      at (more h) =
          let k : left_sum b p c < right_sum b p c = sign_lt (sign_other_way same_side_lem) (omega (arith, h)) in
          inr (aside_by (sided_so (edge b c) (edge a p) (on_left (omega (arith, h)) (omega (arith, k)))))

  -- An edge shares more than a corner with the next where its part to p shares a point with that, or the rest more than the corner
  pub more_after : share_more (edge a b) (edge b c) ≡ (share_point (edge a p) (edge b c) || share_more (edge p b) (edge b c))
  more_after = same_truth there back
    where
      point : Bool
      point = share_point (edge a p) (edge b c)

      rest : Bool
      rest = share_more (edge p b) (edge b c)

      there : share_more (edge a b) (edge b c) ≡ true → (point || rest) ≡ true
      there t = either_right point (more_so p b c (more_part (more_told a b c t)))

      shared : point ≡ true → More a b c ⊎ Unshared (edge a p) (edge b c) → More a b c
      shared t (inl m) = m
      shared t (inr u) = absurd (true≢false (sym t ∙ unshared_so (edge a p) (edge b c) u))

      at : (point ≡ true) ⊎ (rest ≡ true) → More a b c
      at (inl t) = shared t more_or_none
      at (inr t) = more_whole (more_told p b c t)

      back : (point || rest) ≡ true → share_more (edge a b) (edge b c) ≡ true
      back t = more_so a b c (at (either point rest t))

-- and with the one before it where the part from p on shares a point with that, or the part to p more than the corner
pub more_before : {a p b : Point} → OnEdge a p b → Apart a p → (z : Point)
    → share_more (edge z a) (edge a b) ≡ (share_more (edge z a) (edge a p) || share_point (edge p b) (edge z a))
more_before {a} {p} {b} on apart z =
    more_back z a b ∙ more_after (on_other_way on) (apart_back apart) z
    ∙ or_comm (share_point (edge b p) (edge a z)) (share_more (edge p a) (edge a z)) ∙ ap₂ ◌||◌ (more_back p a z) turned
  where
    turned : share_point (edge b p) (edge a z) ≡ share_point (edge p b) (edge z a)
    turned =
        share_back b p (edge a z) ∙ share_comm (edge p b) (edge a z) ∙ share_back a z (edge p b) ∙ share_comm (edge z a) (edge p b)
