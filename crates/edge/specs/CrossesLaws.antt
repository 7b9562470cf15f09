-- Which edges count: an edge that misses a rectangle counts for all points of a latitude of it or for none, and the ends tell which; an
-- edge counts as much either way. Assumes nothing.
use Rattle.std.specs.Prelude.{ℕ, suc, ◌*◌, ◌≤◌, ◌<◌, ◌≡◌, refl, ◌⊎◌, true, false, cond, not, ◌&&◌, ◌||◌, leb}
use Rattle.std.proofs.Common.{arith, ap₂, sym, ◌∙◌, inl, inr}
use Rattle.std.proofs.Math.Path.{ap}
use Rattle.std.proofs.Math.Bool.{Bool, and-true, and-false, or-false, or_comm}
use Rattle.std.proofs.lemmas.Bool.{false≢true}
use borrow.Author.Tests.{leb-true, leb-false, le-leb, lt-leb, lt-ltb, le-ltb}
use Rattle.facts.specs.Tests.{differ, differ_self, differ_none, differ_comm, exchange}
use Rattle.facts.specs.Numbers.{product_le, product_lt, either_way}
use Rattle.ground.specs.declared.Lon.{Lon}
use Rattle.ground.specs.declared.Point.{Point}
use Rattle.ground.specs.declared.Rectangle.{Rectangle}
use Rattle.ground.specs.Levels.{lon}
use Rattle.ground.specs.Rectangles.{Lies, Wide, at}
use Rattle.side.specs.Side.{left_sum, right_sum, left, Leftward}
use Rattle.edge.specs.Edge.{Edge, edge, misses, crosses_east, low, between, turns}
use Rattle.edge.specs.MissesLaws.{LeftOf, Missed, west, east, south, north, on_left, on_right, missed}

-- A corner is at or beyond the east side
abbrev beyond_east : Rectangle → Point → Bool
beyond_east r v = leb r.east.0 v.lon.0

-- An edge that misses a rectangle crosses each latitude of it east of its points, or none; its ends between south and north tell which
record Sided (e : Edge) (r : Rectangle) : Type 0 where
  side : Bool
  crosses : (p : Point) → Lies r p → crosses_east p e ≡ (side && differ (low e.start p) (low e.end p))
  start : r.south.0 < e.start.lat.0 → e.start.lat.0 < r.north.0 → beyond_east r e.start ≡ side
  end : r.south.0 < e.end.lat.0 → e.end.lat.0 < r.north.0 → beyond_east r e.end ≡ side

-- A crossing is counted or not by the side alone
pub crosses_so : (e : Edge) (p : Point) (k : Bool)
    → (e.start.lat.0 ≤ p.lat.0 → p.lat.0 < e.end.lat.0 → left e.start e.end p ≡ k)
    → (e.end.lat.0 ≤ p.lat.0 → p.lat.0 < e.start.lat.0 → left e.end e.start p ≡ k)
    → crosses_east p e ≡ (k && differ (low e.start p) (low e.end p))
unfolding crosses_east
crosses_so e p k up down = case (low e.start p) (low e.end p) refl refl
  where
    case : (a b : Bool) → low e.start p ≡ a → low e.end p ≡ b
        → (a && not b && left e.start e.end p || b && not a && left e.end e.start p) ≡ (k && differ a b)
    case true true h l = sym (and-false k)
    case true false h l =
        or-false (left e.start e.end p)
        ∙ up (leb-true e.start.lat.0 p.lat.0 h) (leb-false e.end.lat.0 p.lat.0 l)
        ∙ sym (and-true k)
    case false true h l = down (leb-true e.end.lat.0 p.lat.0 l) (leb-false e.start.lat.0 p.lat.0 h) ∙ sym (and-true k)
    case false false h l = sym (and-false k)

-- Where exactly one end is at or below the latitude, the end that is tells on which side to look
pub crosses_told : (a b p : Point) → differ (low a p) (low b p) ≡ true → crosses_east p (edge a b) ≡ cond (low a p) (left a b p) (left b a p)
unfolding crosses_east
crosses_told a b p = case (low a p) (low b p)
  where
    case : (i j : Bool) → differ i j ≡ true → (i && not j && left a b p || j && not i && left b a p) ≡ cond i (left a b p) (left b a p)
    case true true d = absurd (false≢true d)
    case true false d = or-false (left a b p)
    case false true d = refl
    case false false d = absurd (false≢true d)

-- An edge upward, west of a point
pub up_west : (a b p : Point) → a.lat.0 ≤ p.lat.0 → p.lat.0 ≤ b.lat.0 → a.lon.0 ≤ p.lon.0 → b.lon.0 ≤ p.lon.0
    → left a b p ≡ false
unfolding left
up_west a b p h k l m = le-ltb (right_sum a b p) (left_sum a b p) (omega (arith, product_le m h, product_le l k))

-- and east of it
pub up_east : (a b p : Point) → a.lat.0 ≤ p.lat.0 → p.lat.0 < b.lat.0 → p.lon.0 < a.lon.0 → p.lon.0 < b.lon.0
    → left a b p ≡ true
unfolding left
up_east a b p h k l m =
    let n : p.lon.0 ≤ b.lon.0 = omega arith in
    lt-ltb (right_sum a b p) (left_sum a b p) (omega (arith, product_le n h, product_lt l k))

module _ (e : Edge) (p : Point) where
  -- An edge west of a point, below it or above it is not counted
  pub west_none : e.start.lon.0 ≤ p.lon.0 → e.end.lon.0 ≤ p.lon.0 → crosses_east p e ≡ false
  west_none h k =
      crosses_so e p false (λ x y. up_west e.start e.end p x (omega arith) h k)
      (λ x y. up_west e.end e.start p x (omega arith) k h)

  pub below_none : e.start.lat.0 ≤ p.lat.0 → e.end.lat.0 ≤ p.lat.0 → crosses_east p e ≡ false
  below_none h k = crosses_so e p false (λ x y. absurd (omega arith)) (λ x y. absurd (omega arith))

  pub above_none : p.lat.0 < e.start.lat.0 → p.lat.0 < e.end.lat.0 → crosses_east p e ≡ false
  above_none h k = crosses_so e p false (λ x y. absurd (omega arith)) (λ x y. absurd (omega arith))

  -- and one east of it is where it has one end at or below
  pub east_counts : p.lon.0 < e.start.lon.0 → p.lon.0 < e.end.lon.0
      → crosses_east p e ≡ differ (low e.start p) (low e.end p)
  east_counts h k =
      crosses_so e p true (λ x y. up_east e.start e.end p x y h k) (λ x y. up_east e.end e.start p x y k h)

  -- Below it and above it told by one test: both ends are at or below its latitude, or neither
  pub same_none : differ (low e.start p) (low e.end p) ≡ false → crosses_east p e ≡ false
  same_none = case (low e.start p) (low e.end p) refl refl
    where
      case : (a b : Bool) → low e.start p ≡ a → low e.end p ≡ b → differ a b ≡ false → crosses_east p e ≡ false
      case true true h k d = below_none (leb-true e.start.lat.0 p.lat.0 h) (leb-true e.end.lat.0 p.lat.0 k)
      case true false h k d = absurd (false≢true (sym d))
      case false true h k d = absurd (false≢true (sym d))
      case false false h k d = above_none (leb-false e.start.lat.0 p.lat.0 h) (leb-false e.end.lat.0 p.lat.0 k)

module _ {r : Rectangle} (wide : Wide r) (a b : Point) (l : LeftOf a b r) where
  -- A rectangle left of a line upward lies west of each point of the line
  up_beyond : a.lat.0 < b.lat.0 → (v : Point) → left_sum a b v ≡ right_sum a b v → r.south.0 ≤ v.lat.0 → v.lat.0 ≤ r.north.0
      → r.east.0 ≤ v.lon.0
  up_beyond u v on s n = case (either_way r.east.0 v.lon.0) (l (at v.lat r.east) (omega arith))
    where
      case : (r.east.0 ≤ v.lon.0) ⊎ (v.lon.0 < r.east.0) → Leftward a b (at v.lat r.east) → r.east.0 ≤ v.lon.0
      case (inl k) h = k
      case (inr k) h = omega (arith, product_lt k u)

  -- and of a line downward east of them
  down_beyond : b.lat.0 < a.lat.0 → (v : Point) → left_sum a b v ≡ right_sum a b v → r.south.0 ≤ v.lat.0 → v.lat.0 ≤ r.north.0
      → v.lon.0 ≤ r.west.0
  down_beyond u v on s n = case (either_way v.lon.0 r.west.0) (l (at v.lat r.west) (omega arith))
    where
      case : (v.lon.0 ≤ r.west.0) ⊎ (r.west.0 < v.lon.0) → Leftward a b (at v.lat r.west) → v.lon.0 ≤ r.west.0
      case (inl k) h = k
      case (inr k) h = omega (arith, product_lt k u)

  -- A level line between south and north has no length
  level_none : a.lat.0 ≡ b.lat.0 → r.south.0 < a.lat.0 → a.lat.0 < r.north.0 → a.lon.0 ≡ b.lon.0
  level_none u s n =
      case (either_way a.lon.0 b.lon.0) (either_way b.lon.0 a.lon.0) (l (at r.south r.west) (omega arith))
      (l (at r.north r.west) (omega arith))
    where
      times : (x : ℕ) → x * a.lat.0 ≡ x * b.lat.0
      times x = ap (λ (y : ℕ). x * y) u

      case : (a.lon.0 ≤ b.lon.0) ⊎ (b.lon.0 < a.lon.0) → (b.lon.0 ≤ a.lon.0) ⊎ (a.lon.0 < b.lon.0)
          → Leftward a b (at r.south r.west) → Leftward a b (at r.north r.west) → a.lon.0 ≡ b.lon.0
      case (inl h) (inl k) f g = omega arith
      case (inl h) (inr k) f g = omega (arith, times r.west.0, times a.lon.0, product_lt k s)
      case (inr h) (inl k) f g = omega (arith, times r.west.0, times a.lon.0, product_lt h n)
      case (inr h) (inr k) f g = omega arith

  -- Each of its points is not right of the line
  right_not : (p : Point) → Lies r p → left b a p ≡ false
  unfolding left
  right_not p h =
      let k : Leftward a b p = l p (omega arith) in
      le-ltb (right_sum b a p) (left_sum b a p) (omega arith)

  -- and left of it where the line goes upward
  up_left : a.lat.0 < b.lat.0 → (p : Point) → Lies r p → left a b p ≡ true
  unfolding left
  up_left u p h =
      let east : Point = at p.lat (lon (suc p.lon.0)) in
      let k : Leftward a b east = l east (omega arith) in
      lt-ltb (right_sum a b p) (left_sum a b p) (omega arith)

  -- An edge that has the rectangle on its left
  left_sided : Sided (record { start = a; end = b }) r
  left_sided = case (either_way a.lat.0 b.lat.0) (either_way b.lat.0 a.lat.0)
    where
      e : Edge
      e = record { start = a; end = b }

      case : (a.lat.0 ≤ b.lat.0) ⊎ (b.lat.0 < a.lat.0) → (b.lat.0 ≤ a.lat.0) ⊎ (a.lat.0 < b.lat.0) → Sided e r
      case (inl h) (inl k) =
          let u : a.lat.0 ≡ b.lat.0 = omega arith in
          record {
            side = beyond_east r a;
            crosses = λ p m. crosses_so e p (beyond_east r a) (λ x y. absurd (omega arith)) (λ x y. absurd (omega arith));
            start = λ s n. refl;
            end = λ s n. ap (λ (x : ℕ). leb r.east.0 x) (sym (level_none u (omega arith) (omega arith)));
          }
      case (inl h) (inr k) =
          record {
            side = true;
            crosses = λ p m. crosses_so e p true (λ x y. up_left k p m) (λ x y. absurd (omega arith));
            start = λ s n. le-leb r.east.0 a.lon.0 (up_beyond k a (omega arith) (omega arith) (omega arith));
            end = λ s n. le-leb r.east.0 b.lon.0 (up_beyond k b (omega arith) (omega arith) (omega arith));
          }
      case (inr h) (inl k) =
          record {
            side = false;
            crosses = λ p m. crosses_so e p false (λ x y. absurd (omega arith)) (λ x y. right_not p m);
            start = λ s n. lt-leb r.east.0 a.lon.0 (omega (arith, down_beyond h a (omega arith) (omega arith) (omega arith)));
            end = λ s n. lt-leb r.east.0 b.lon.0 (omega (arith, down_beyond h b (omega arith) (omega arith) (omega arith)));
          }
      case (inr h) (inr k) = absurd (omega arith)

-- An edge counts as much either way
pub crosses_other_way : (q a b : Point) → crosses_east q (edge a b) ≡ crosses_east q (edge b a)
unfolding crosses_east
crosses_other_way q a b = or_comm (up a b) (up b a)
  where
    up : Point → Point → Bool
    up a b = leb a.lat.0 q.lat.0 && not (leb b.lat.0 q.lat.0) && left a b q

-- An edge turned round
turned : {a b : Point} {r : Rectangle} → Sided (record { start = b; end = a }) r → Sided (record { start = a; end = b }) r
turned {a} {b} {r} s =
    record {
      side = s.side;
      crosses = λ p h. crosses_other_way p a b ∙ s.crosses p h ∙ ap (λ (t : Bool). s.side && t) (differ_comm (low b p) (low a p));
      start = s.end;
      end = s.start;
    }

-- Each edge that misses a wide rectangle is sided
sided : {r : Rectangle} → Wide r → (e : Edge) → Missed e r → Sided e r
sided {r} wide e (west h k) =
    record {
      side = false;
      crosses = λ p m. west_none e p (omega arith) (omega arith);
      start = λ s n. lt-leb r.east.0 e.start.lon.0 (omega arith);
      end = λ s n. lt-leb r.east.0 e.end.lon.0 (omega arith);
    }
sided {r} wide e (east h k) =
    record {
      side = true;
      crosses = λ p m. east_counts e p (omega arith) (omega arith);
      start = λ s n. le-leb r.east.0 e.start.lon.0 h;
      end = λ s n. le-leb r.east.0 e.end.lon.0 k;
    }
sided {r} wide e (south h k) =
    record {
      side = false;
      crosses = λ p m. below_none e p (omega arith) (omega arith);
      start = λ s n. absurd (omega arith);
      end = λ s n. absurd (omega arith);
    }
sided {r} wide e (north h k) =
    record {
      side = false;
      crosses = λ p m. above_none e p (omega arith) (omega arith);
      start = λ s n. absurd (omega arith);
      end = λ s n. absurd (omega arith);
    }
sided wide e (on_left l) = left_sided wide e.start e.end l
sided wide e (on_right l) = turned (left_sided wide e.end e.start l)

module _ {r : Rectangle} {p q : Point} (in_p : Lies r p) (in_q : Lies r q) where
  -- A corner between two points of a rectangle tells its side
  between_side : (v : Point) (k : Bool) → (r.south.0 < v.lat.0 → v.lat.0 < r.north.0 → beyond_east r v ≡ k)
      → between r.east p q v ≡ (k && differ (low v p) (low v q))
  between_side v k h = case (low v p) (low v q) refl refl
    where
      case : (a b : Bool) → low v p ≡ a → low v q ≡ b → (beyond_east r v && differ a b) ≡ (k && differ a b)
      case true true x y = and-false (beyond_east r v) ∙ sym (and-false k)
      case true false x y =
          let above : q.lat.0 < v.lat.0 = leb-false v.lat.0 q.lat.0 y in
          let below : v.lat.0 ≤ p.lat.0 = leb-true v.lat.0 p.lat.0 x in
          ap (λ (t : Bool). t && true) (h (omega arith) (omega arith))
      case false true x y =
          let above : p.lat.0 < v.lat.0 = leb-false v.lat.0 p.lat.0 x in
          let below : v.lat.0 ≤ q.lat.0 = leb-true v.lat.0 q.lat.0 y in
          ap (λ (t : Bool). t && true) (h (omega arith) (omega arith))
      case false false x y = and-false (beyond_east r v) ∙ sym (and-false k)

  -- An edge that misses the rectangle is counted for one of the two points where one of its ends is such
  pub tells : (e : Edge) → Missed e r
      → differ (crosses_east p e) (crosses_east q e) ≡ differ (between r.east p q e.start) (between r.east p q e.end)
  tells e m =
      let s : Sided e r = sided (omega arith) e m in
      ap₂ differ (s.crosses p in_p) (s.crosses q in_q)
      ∙ four s.side (low e.start p) (low e.end p) (low e.start q) (low e.end q)
      ∙ sym (ap₂ differ (between_side e.start s.side s.start) (between_side e.end s.side s.end))
    where
      four : (k a b c d : Bool) → differ (k && differ a b) (k && differ c d) ≡ differ (k && differ a c) (k && differ b d)
      four true a b c d = exchange a b c d
      four false a b c d = refl

  -- So it does not turn the count between them
  pub turns_none : (e : Edge) → misses e r ≡ true → turns r.east p q e ≡ false
  unfolding turns
  turns_none e t =
      let ends : Bool = differ (between r.east p q e.start) (between r.east p q e.end) in
      ap (λ (x : Bool). differ x ends) (tells e (missed e r t)) ∙ differ_self ends

-- Where neither latitude is between the ends of an edge, nothing is crossed, and the ends alone turn the count
turns_ends : (side : Lon) (p q : Point) (e : Edge) → differ (low e.start p) (low e.end p) ≡ false
    → differ (low e.start q) (low e.end q) ≡ false
    → turns side p q e ≡ differ (between side p q e.start) (between side p q e.end)
unfolding turns
turns_ends side p q e h k = rw (same_none e p h, same_none e q k)

-- They do where the latitudes part them, both alike, and one of them alone is at or beyond the east side
pub turns_parted : (side : Lon) (p q : Point) (e : Edge) → differ (low e.start p) (low e.end p) ≡ false
    → differ (low e.start q) (low e.end q) ≡ false
    → turns side p q e
    ≡ (differ (low e.start p) (low e.start q) && differ (leb side.0 e.start.lon.0) (leb side.0 e.end.lon.0))
turns_parted side p q e h k =
    turns_ends side p q e h k
    ∙ ap (λ (t : Bool). differ (between side p q e.start) (leb side.0 e.end.lon.0 && t)) (sym alike)
    ∙ shared (leb side.0 e.start.lon.0) (leb side.0 e.end.lon.0) (differ (low e.start p) (low e.start q))
  where
    alike : differ (low e.start p) (low e.start q) ≡ differ (low e.end p) (low e.end q)
    alike = ap₂ differ (differ_none (low e.start p) (low e.end p) h) (differ_none (low e.start q) (low e.end q) k)

    shared : (a b c : Bool) → differ (a && c) (b && c) ≡ (c && differ a b)
    shared a b true = ap₂ differ (and-true a) (and-true b)
    shared a b false = ap₂ differ (and-false a) (and-false b)

-- An edge of no length crosses nothing
pub crosses_one_point : (q a : Point) → crosses_east q (edge a a) ≡ false
unfolding crosses_east
crosses_one_point q a = so (leb a.lat.0 q.lat.0)
  where
    so : (i : Bool) → (i && not i && left a a q || i && not i && left a a q) ≡ false
    so true = refl
    so false = refl
