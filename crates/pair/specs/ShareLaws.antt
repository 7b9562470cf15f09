-- The two parts of an edge at a point on it: the edge shares a point with another where one of its parts does. Assumes nothing.
use Rattle.std.specs.Prelude.{ℕ, ◌+◌, ◌*◌, ◌≤◌, ◌<◌, min, max, ◌≡◌, refl, ◌⊎◌, true, false, ◌&&◌, ◌||◌}
use Rattle.std.proofs.Common.{arith, ap, ap₂, sym, ◌∙◌, inl, inr}
use Rattle.facts.specs.Tests.{neither, none_of, same_failure}
use Rattle.facts.specs.Numbers.{product_le, product_lt, either_way}
use Rattle.ground.specs.declared.Point.{Point}
use Rattle.side.specs.Side.{left_sum, right_sum}
use Rattle.edge.specs.Edge.{Edge, edge, Between, OnEdge}
use Rattle.edge.specs.OnEdgeLaws.{on_other_way, Apart, apart_back, same_left, same_left_back}
use Rattle.pair.specs.Pair.{aside_of, share_point}
use Rattle.pair.specs.PairLaws.{Way, up, across, along, either_along, between_along}
use Rattle.pair.specs.PairLaws.{Beside, below, above, beside_comm, beside_back, Clear, clear_back}
use Rattle.pair.specs.PairLaws.{StrictlyLeft, Sided, on_left, on_right, sided, sided_so, aside_back, aside_ends}
use Rattle.pair.specs.PairLaws.{Unshared, clear, aside, aside_by, unshared, unshared_so, unshared_back}

-- The line of a part is the line of the whole
aside_part : {a p b : Point} → OnEdge a p b → Apart a p → (f : Edge) → aside_of (edge a b) f ≡ aside_of (edge a p) f
unfolding aside_of
aside_part {a} {p} {b} on apart f =
    ap₂ ◌||◌ (ap₂ ◌&&◌ (same_left a p b on apart f.start) (same_left a p b on apart f.end))
    (ap₂ ◌&&◌ (same_left_back a p b on apart f.start) (same_left_back a p b on apart f.end))

aside_rest : {a p b : Point} → OnEdge a p b → Apart p b → (f : Edge) → aside_of (edge a b) f ≡ aside_of (edge p b) f
aside_rest {a} {p} {b} on apart f = aside_back a b f ∙ aside_part (on_other_way on) (apart_back apart) f ∙ aside_back b p f

-- As p lies to a and b, so y lies to x and z
record Likewise (a p b x y z : ℕ) : Type 0 where
  equal : b * y + p * x + a * z ≡ a * y + b * x + p * z

-- So lies a number to itself on both sides
like_same : (a p b k : ℕ) → Likewise a p b k k k
like_same a p b k = record { equal = omega arith }

-- so lie sums
like_sum : {a p b x y z u v w : ℕ} → Likewise a p b x y z → Likewise a p b u v w → Likewise a p b (x + u) (y + v) (z + w)
like_sum h k = record { equal = omega (arith, h.equal, k.equal) }

-- and products
like_times : {a p b x y z : ℕ} (k : ℕ) → Likewise a p b x y z → Likewise a p b (k * x) (k * y) (k * z)
like_times k h = record { equal = omega (arith, ap (λ (t : ℕ). k * t) h.equal) }

like_by : {a p b x y z : ℕ} (k : ℕ) → Likewise a p b x y z → Likewise a p b (x * k) (y * k) (z * k)
like_by k h = record { equal = omega (arith, (like_times k h).equal) }

-- and all the other way round
like_back : {a p b x y z : ℕ} → Likewise a p b x y z → Likewise b p a z y x
like_back h = record { equal = omega (arith, h.equal) }

-- A point on a line lies in one direction as it does in another
like_line : {a p b : Point} → OnEdge a p b → (w v : Way) → Likewise (along w a) (along w p) (along w b) (along v a) (along v p) (along v b)
like_line on up up = record { equal = omega arith }
like_line on up across = record { equal = omega (arith, on.line) }
like_line on across up = record { equal = omega (arith, on.line) }
like_line on across across = record { equal = omega arith }

-- so does its side of another line
like_left : {a p b : Point} → OnEdge a p b → (c d : Point) (w : Way)
    → Likewise (along w a) (along w p) (along w b) (left_sum c d a) (left_sum c d p) (left_sum c d b)
like_left {a} {p} {b} on c d w =
    like_sum (like_sum (like_same (along w a) (along w p) (along w b) (c.lon.0 * d.lat.0)) (like_times d.lon.0 (like_line on w up)))
    (like_by c.lat.0 (like_line on w across))

-- What lies likewise between two positive differences is positive
amid_up : {a p b la ra lp rp lb rb : ℕ} → a ≤ p → p ≤ b → a < b → Likewise a p b la lp lb → Likewise a p b ra rp rb → ra < la → rb < lb
    → rp < lp
amid_up {a} {p} {b} {la} {ra} {lp} {rp} h k o l r m n = at (either_way lp rp)
  where
    at : (lp ≤ rp) ⊎ (rp < lp) → rp < lp
    at (inl q) =
        let u : a ≤ b = omega arith in
        omega (arith, l.equal, r.equal, product_le h n, product_le k m, product_le u q)
    at (inr q) = q

amid : {a p b la ra lp rp lb rb : ℕ} → Between a p b → (a ≡ p → ⊥) → Likewise a p b la lp lb → Likewise a p b ra rp rb → ra < la → rb < lb
    → rp < lp
amid {a} {p} {b} {la} {ra} {lp} {rp} on apart l r m n = at (either_way a b)
  where
    at : (a ≤ b) ⊎ (b < a) → rp < lp
    at (inl h) = amid_up {a = a} {p = p} {b = b} (omega arith) (omega arith) (omega arith) l r m n
    at (inr h) = amid_up {a = b} {p = p} {b = a} (omega arith) (omega arith) h (like_back l) (like_back r) n m

-- A point between two that are strictly left of a line is so too
left_amid : {a p b : Point} → OnEdge a p b → Apart a p → (c d : Point) → StrictlyLeft c d a → StrictlyLeft c d b → StrictlyLeft c d p
left_amid {a} {p} {b} on apart c d h k = either_along (λ (w : Way). along w a ≡ along w p → ⊥) one apart
  where
    one : (w : Way) → (along w a ≡ along w p → ⊥) → StrictlyLeft c d p
    one w l =
        let m : left_sum d c a < left_sum c d a = omega (arith, h) in
        let n : left_sum d c b < left_sum c d b = omega (arith, k) in
        omega (arith, amid (between_along w on) l (like_left on c d w) (like_left on d c w) m n)

-- Where an edge shares no point with another, its part to a point on it shares none
part_unshared : {a p b : Point} {f : Edge} → OnEdge a p b → Apart a p → Unshared (edge a b) f → Unshared (edge a p) f
part_unshared {a} {p} {b} {f} on apart (clear h) = clear (record { way = h.way; beside = at h.way h.beside })
  where
    at : (w : Way) → Beside (along w a) (along w b) (along w f.start) (along w f.end)
        → Beside (along w a) (along w p) (along w f.start) (along w f.end)
    at w (below k) = below (omega (arith, between_along w on))
    at w (above k) = above (omega (arith, between_along w on))
part_unshared {f = f} on apart (aside h) = aside (sym (aside_part on apart f) ∙ h)
part_unshared {a} {p} {b} {f} on apart (aside_by h) = aside_by (sided_so f (edge a p) (at (sided f (edge a b) h)))
  where
    at : Sided f (edge a b) → Sided f (edge a p)
    at (on_left k l) = on_left k (left_amid on apart f.start f.end k l)
    at (on_right k l) = on_right k (left_amid on apart f.end f.start k l)

-- Two parts beside one extent are so together
beside_both : {a p b c d : ℕ} → Beside a p c d → Beside p b c d → Beside a b c d
beside_both (below h) (below k) = below (omega arith)
beside_both (below h) (above k) = let none : ⊥ = omega arith in absurd none
beside_both (above h) (below k) = let none : ⊥ = omega arith in absurd none
beside_both (above h) (above k) = above (omega arith)

-- From a to b it goes the way that it goes from p to both c and d
data Towards (a b p c d : ℕ) : Type 0 where
  rising : a < b → p < c → p < d → Towards a b p c d
  falling : b < a → c < p → d < p → Towards a b p c d

-- as it does where a and p are beside an extent and a and b are not
towards : (a p b c d : ℕ) → Beside a p c d → Beside a b c d ⊎ Towards a b p c d
towards a p b c d (below h) = at (either_way (min c d) b)
  where
    at : (min c d ≤ b) ⊎ (b < min c d) → Beside a b c d ⊎ Towards a b p c d
    at (inl k) = inr (rising (omega arith) (omega arith) (omega arith))
    at (inr k) = inl (below (omega arith))
towards a p b c d (above h) = at (either_way b (max c d))
  where
    at : (b ≤ max c d) ⊎ (max c d < b) → Beside a b c d ⊎ Towards a b p c d
    at (inl k) = inr (falling (omega arith) (omega arith) (omega arith))
    at (inr k) = inl (above (omega arith))

module _ {a p b : Point} {f : Edge} (on : OnEdge a p b) where
  -- Where an edge's line goes so in one direction and back in the other, the other edge is on one side of it
  turning : Towards a.lon.0 b.lon.0 p.lon.0 f.start.lon.0 f.end.lon.0
      → Towards b.lat.0 a.lat.0 p.lat.0 f.start.lat.0 f.end.lat.0 → Sided (edge a b) f
  turning (rising h i j) (rising k m n) =
      on_left (omega (arith, on.line, product_lt h m, product_lt k i)) (omega (arith, on.line, product_lt h n, product_lt k j))
  turning (rising h i j) (falling k m n) =
      on_right (omega (arith, on.line, product_lt h m, product_lt k i)) (omega (arith, on.line, product_lt h n, product_lt k j))
  turning (falling h i j) (rising k m n) =
      on_right (omega (arith, on.line, product_lt h m, product_lt k i)) (omega (arith, on.line, product_lt h n, product_lt k j))
  turning (falling h i j) (falling k m n) =
      on_left (omega (arith, on.line, product_lt h m, product_lt k i)) (omega (arith, on.line, product_lt h n, product_lt k j))

  -- One part beside the other edge across and the other part beside it up: so is the whole, or the other edge is on one side of it
  crosswise : Beside a.lon.0 p.lon.0 f.start.lon.0 f.end.lon.0
      → Beside b.lat.0 p.lat.0 f.start.lat.0 f.end.lat.0 → Unshared (edge a b) f
  crosswise h k =
      at (towards a.lon.0 p.lon.0 b.lon.0 f.start.lon.0 f.end.lon.0 h)
      (towards b.lat.0 p.lat.0 a.lat.0 f.start.lat.0 f.end.lat.0 k)
    where
      at : Beside a.lon.0 b.lon.0 f.start.lon.0 f.end.lon.0
          ⊎ Towards a.lon.0 b.lon.0 p.lon.0 f.start.lon.0 f.end.lon.0
          → Beside b.lat.0 a.lat.0 f.start.lat.0 f.end.lat.0
          ⊎ Towards b.lat.0 a.lat.0 p.lat.0 f.start.lat.0 f.end.lat.0
          → Unshared (edge a b) f
      at (inl l) m = clear (record { way = across; beside = l })
      at (inr l) (inl m) = clear (record { way = up; beside = beside_back m })
      at (inr l) (inr m) = aside (sided_so (edge a b) f (turning l m))

-- Where both parts of an edge are apart from another, the edge shares no point with it
clear_both : {a p b : Point} {f : Edge} → OnEdge a p b → Clear (edge a p) f → Clear (edge p b) f → Unshared (edge a b) f
clear_both {a} {p} {b} {f} on h k = at h.way k.way h.beside k.beside
  where
    at : (w v : Way) → Beside (along w a) (along w p) (along w f.start) (along w f.end)
        → Beside (along v p) (along v b) (along v f.start) (along v f.end) → Unshared (edge a b) f
    at up up l m = clear (record { way = up; beside = beside_both l m })
    at up across l m = unshared_back (crosswise (on_other_way on) (beside_back m) l)
    at across up l m = crosswise on l (beside_back m)
    at across across l m = clear (record { way = across; beside = beside_both l m })

-- Two pairs of numbers with weights of one sum and one moment: the one is not below the other
balance_below : (m b p c d lp rp lb rb lc rc ld rd : ℕ) → rp ≤ lp → lb ≤ rb → lc ≤ rc → rd ≤ ld → rp + lb < lp + rb
    → lp + rb + (rd + lc) ≡ rp + lb + (ld + rc)
    → lp * b + rb * p + (rd * c + lc * d) ≡ rp * b + lb * p + (ld * c + rc * d)
    → b ≤ m → p ≤ m → m < c → m < d → ⊥
balance_below m b p c d lp rp lb rb lc rc ld rd hp hb hc hd some weights moments mb mp mc md =
    let e : m * (lp + rb + (rd + lc)) ≡ m * (rp + lb + (ld + rc)) = ap (λ (x : ℕ). m * x) weights in
    omega (arith, some, weights, moments, e, product_le hp mb, product_le hb mp, product_le hd mc, product_le hc md)

-- nor above it
balance : (b p c d lp rp lb rb lc rc ld rd : ℕ) → rp < lp → lb ≤ rb → lc ≤ rc → rd ≤ ld
    → lp + rb + (rd + lc) ≡ rp + lb + (ld + rc)
    → lp * b + rb * p + (rd * c + lc * d) ≡ rp * b + lb * p + (ld * c + rc * d)
    → Beside p b c d → ⊥
balance b p c d lp rp lb rb lc rc ld rd hp hb hc hd weights moments (below h) =
    balance_below (max p b) b p c d lp rp lb rb lc rc ld rd (omega arith) hb hc hd (omega arith) weights moments (omega arith) (omega arith)
    (omega arith) (omega arith)
balance b p c d lp rp lb rb lc rc ld rd hp hb hc hd weights moments (above h) =
    balance_below (max c d) c d b p ld rd lc rc lb rb lp rp hd hc hb (omega arith) (omega arith) (omega arith) (omega (arith, moments))
    (omega arith) (omega arith) (omega arith) (omega arith)

module _ (p b c d : Point) where
  -- Where the lines through p and b and through c and d cross, as either of them has it
  moments : (w : Way)
      → left_sum c d p * along w b + right_sum c d b * along w p + (right_sum p b d * along w c + left_sum p b c * along w d)
      ≡ right_sum c d p * along w b + left_sum c d b * along w p + (left_sum p b d * along w c + right_sum p b c * along w d)
  moments up = omega arith
  moments across = omega arith

  -- An edge that is apart from another starts and ends on the same side of its line, or has it on one side of its own
  crossing : StrictlyLeft c d p → Clear (edge p b) (edge c d) → StrictlyLeft c d b ⊎ (aside_of (edge p b) (edge c d) ≡ true)
  crossing h k = at (either_way (left_sum c d b) (right_sum c d b))
    where
      none : left_sum c d b ≤ right_sum c d b → left_sum p b c ≤ right_sum p b c → right_sum p b d ≤ left_sum p b d → ⊥
      none l m n =
          let w = k.way in
          balance (along w b) (along w p) (along w c) (along w d) (left_sum c d p) (right_sum c d p) (left_sum c d b) (right_sum c d b)
          (left_sum p b c) (right_sum p b c) (left_sum p b d) (right_sum p b d) h l m n (omega arith) (moments w) k.beside

      so : left_sum c d b ≤ right_sum c d b → (left_sum p b c ≤ right_sum p b c) ⊎ (right_sum p b c < left_sum p b c)
          → (right_sum p b d ≤ left_sum p b d) ⊎ (left_sum p b d < right_sum p b d) → Sided (edge p b) (edge c d)
      so l (inr m) n = on_left m (omega arith)
      so l (inl m) (inr n) = on_right (omega arith) (omega arith)
      so l (inl m) (inl n) = absurd (none l m n)

      at : (left_sum c d b ≤ right_sum c d b) ⊎ (right_sum c d b < left_sum c d b) → StrictlyLeft c d b ⊎ (aside_of (edge p b) (edge c d) ≡ true)
      at (inl l) =
          inr
          (sided_so (edge p b) (edge c d)
          (so l (either_way (left_sum p b c) (right_sum p b c)) (either_way (right_sum p b d) (left_sum p b d))))
      at (inr l) = inl l

-- One part on one side of another edge's line, and the other apart from that edge: the whole shares no point with it
side_clear : {a p b : Point} {f : Edge} → OnEdge a p b → Apart p b → Sided f (edge a p) → Clear (edge p b) f → Unshared (edge a b) f
side_clear {a} {p} {b} {f} on apart s k = at s
  where
    ends : Clear (edge p b) (edge f.end f.start)
    ends = record { way = k.way; beside = beside_comm (beside_back (beside_comm k.beside)) }

    so : (c d : Point) → aside_of (edge p b) f ≡ aside_of (edge p b) (edge c d) → (StrictlyLeft c d b → Sided f (edge a b))
        → StrictlyLeft c d b ⊎ (aside_of (edge p b) (edge c d) ≡ true) → Unshared (edge a b) f
    so c d e side (inl m) = aside_by (sided_so f (edge a b) (side m))
    so c d e side (inr m) = aside (aside_rest on apart f ∙ e ∙ m)

    at : Sided f (edge a p) → Unshared (edge a b) f
    at (on_left h l) = so f.start f.end refl (on_left h) (crossing p b f.start f.end l k)
    at (on_right h l) =
        so f.end f.start (aside_ends f.start f.end (edge p b)) (on_right h) (crossing p b f.end f.start l ends)

-- Two parts each on one side of another edge's line are on the same side of it
side_both : {a p b : Point} {f : Edge} → Sided f (edge a p) → Sided f (edge p b) → Sided f (edge a b)
side_both (on_left h k) (on_left l m) = on_left h m
side_both (on_left h k) (on_right l m) = let none : ⊥ = omega arith in absurd none
side_both (on_right h k) (on_left l m) = let none : ⊥ = omega arith in absurd none
side_both (on_right h k) (on_right l m) = on_right h m

-- Where neither part of an edge shares a point with another, nor does the edge
whole_unshared : {a p b : Point} {f : Edge} → OnEdge a p b → Apart a p → Apart p b → Unshared (edge a p) f → Unshared (edge p b) f
    → Unshared (edge a b) f
whole_unshared {a} {p} {b} {f} on ap pb u v = at u v
  where
    at : Unshared (edge a p) f → Unshared (edge p b) f → Unshared (edge a b) f
    at (aside h) v = aside (aside_part on ap f ∙ h)
    at (clear h) (aside k) = aside (aside_rest on pb f ∙ k)
    at (aside_by h) (aside k) = aside (aside_rest on pb f ∙ k)
    at (clear h) (clear k) = clear_both on h k
    at (clear h) (aside_by k) =
        unshared_back (side_clear (on_other_way on) (apart_back ap) (sided f (edge b p) (sym (aside_ends p b f) ∙ k)) (clear_back h))
    at (aside_by h) (clear k) = side_clear on pb (sided f (edge a p) h) k
    at (aside_by h) (aside_by k) = aside_by (sided_so f (edge a b) (side_both (sided f (edge a p) h) (sided f (edge p b) k)))

-- An edge shares a point with another where one of the two that a point on it makes does
pub share_set : {a p b : Point} → OnEdge a p b → Apart a p → Apart p b → (f : Edge)
    → share_point (edge a b) f ≡ (share_point (edge a p) f || share_point (edge p b) f)
share_set {a} {p} {b} on ap pb f = same_failure parts whole
  where
    parts : share_point (edge a b) f ≡ false → (share_point (edge a p) f || share_point (edge p b) f) ≡ false
    parts t =
        let u = unshared (edge a b) f t in
        none_of (unshared_so (edge a p) f (part_unshared on ap u))
        (unshared_so (edge p b) f (unshared_back (part_unshared (on_other_way on) (apart_back pb) (unshared_back u))))

    whole : (share_point (edge a p) f || share_point (edge p b) f) ≡ false → share_point (edge a b) f ≡ false
    whole t =
        let ts = neither (share_point (edge a p) f) (share_point (edge p b) f) t in
        unshared_so (edge a b) f (whole_unshared on ap pb (unshared (edge a p) f ts.0) (unshared (edge p b) f ts.1))
