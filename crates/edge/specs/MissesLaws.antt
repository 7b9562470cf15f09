-- An edge that misses a rectangle: what the test says of it, that it misses every rectangle within, and that it has no end
-- strictly within where it has a length. Assumes nothing.
use Rattle.std.specs.Prelude.{ℕ, ◌+◌, ◌*◌, ◌≤◌, ◌<◌, ◌≡◌, refl, ◌⊎◌, Bool, true, false, not, ◌&&◌, ◌||◌, leb, ltb, eqb}
use Rattle.std.proofs.Common.{arith, ap, ap₂, sym, ◌∙◌, inl, inr, leb-true, le-leb, ltb-true, eqb-true, eq-eqb}
use Rattle.std.proofs.lemmas.Bool.{false≢true}
use Rattle.facts.specs.Tests.{both, either, either_left, either_right, same_truth}
use Rattle.ground.specs.declared.Point.{Point}
use Rattle.ground.specs.declared.Rectangle.{Rectangle}
use Rattle.ground.specs.Rectangles.{Within, Holds, Ordered, at}
use Rattle.ground.specs.RectanglesLaws.{holds_within}
use Rattle.side.specs.Side.{left_sum, right_sum, left_or_on, Leftward}
use Rattle.edge.specs.Edge.{Edge, edge, no_length, all_left, beyond, misses, strictly_between, strictly_within, end_within}
use Rattle.facts.specs.Numbers.{Compared, less, same, more, compared, product_le, product_lt, either_way}

-- Each point of a rectangle is left of the line from a to b, or on it
abbrev pub LeftOf : Point → Point → Rectangle → Type 0
LeftOf a b r = (p : Point) → Holds r p → Leftward a b p

-- An edge misses a rectangle: it is beyond a side, or the rectangle lies on one side of its line
pub data Missed (e : Edge) (r : Rectangle) : Type 0 where
  west : e.start.lon.0 ≤ r.west.0 → e.end.lon.0 ≤ r.west.0 → Missed e r
  east : r.east.0 ≤ e.start.lon.0 → r.east.0 ≤ e.end.lon.0 → Missed e r
  south : e.start.lat.0 ≤ r.south.0 → e.end.lat.0 ≤ r.south.0 → Missed e r
  north : r.north.0 ≤ e.start.lat.0 → r.north.0 ≤ e.end.lat.0 → Missed e r
  on_left : LeftOf e.start e.end r → Missed e r
  on_right : LeftOf e.end e.start r → Missed e r

-- An edge that is beyond a side misses, and so does one with all corners on one side of its line
pub misses_beyond : (e : Edge) (r : Rectangle) → beyond e r ≡ true → misses e r ≡ true
unfolding misses
misses_beyond e r t = ap (λ (b : Bool). b || all_left e.start e.end r || all_left e.end e.start r) t

pub misses_aside : (e : Edge) (r : Rectangle) → (all_left e.start e.end r || all_left e.end e.start r) ≡ true → misses e r ≡ true
unfolding misses
misses_aside e r t = at (beyond e r) (all_left e.start e.end r) (all_left e.end e.start r) t
  where
    at : (a b c : Bool) → (b || c) ≡ true → (a || b || c) ≡ true
    at true b c q = refl
    at false b c q = q

-- Two comparisons, both ways
two : (a b c d : ℕ) → (leb a b && leb c d) ≡ true → (a ≤ b) × (c ≤ d)
two a b c d e = let t = both (leb a b) (leb c d) e in (leb-true a b t.0, leb-true c d t.1)

two_back : {a b c d : ℕ} → a ≤ b → c ≤ d → (leb a b && leb c d) ≡ true
two_back {a} {b} {c} {d} h k = ap₂ ◌&&◌ (le-leb a b h) (le-leb c d k)

-- The side of a line is a linear function: a point between x and X, y and Y is left of it where the four corners are
between_left : (ax ay bx by x X y Y px py : ℕ)
    → bx * ay + x * by + ax * y ≤ ax * by + bx * y + x * ay
    → bx * ay + X * by + ax * y ≤ ax * by + bx * y + X * ay
    → bx * ay + x * by + ax * Y ≤ ax * by + bx * Y + x * ay
    → bx * ay + X * by + ax * Y ≤ ax * by + bx * Y + X * ay
    → x ≤ px → px ≤ X → y ≤ py → py ≤ Y
    → bx * ay + px * by + ax * py ≤ ax * by + bx * py + px * ay
between_left ax ay bx by x X y Y px py sw se nw ne w e s n = case (either_way ay by) (either_way ax bx)
  where
    case : (ay ≤ by) ⊎ (by < ay) → (ax ≤ bx) ⊎ (bx < ax) → bx * ay + px * by + ax * py ≤ ax * by + bx * py + px * ay
    case (inl h) (inl k) = omega (arith, product_le h e, product_le k s)
    case (inl h) (inr k) = let l : bx ≤ ax = omega arith in omega (arith, product_le h e, product_le l n)
    case (inr h) (inl k) = let l : by ≤ ay = omega arith in omega (arith, product_le l w, product_le k s)
    case (inr h) (inr k) =
        let l : by ≤ ay = omega arith in
        let m : bx ≤ ax = omega arith in
        omega (arith, product_le l w, product_le m n)

-- Where the four corners lie all on one side of a line, each point of the rectangle does
all_left_lem : (a b : Point) (r : Rectangle) → all_left a b r ≡ true → LeftOf a b r
unfolding left_or_on
all_left_lem a b r e p h =
    let three = both (sw && se && nw) ne e in
    let two = both (sw && se) nw three.0 in
    let one = both sw se two.0 in
    between_left a.lon.0 a.lat.0 b.lon.0 b.lat.0 r.west.0 r.east.0 r.south.0 r.north.0 p.lon.0 p.lat.0
    (corner (at r.south r.west) one.0) (corner (at r.south r.east) one.1) (corner (at r.north r.west) two.1)
    (corner (at r.north r.east) three.1) h.west h.east h.south h.north
  where
    sw : Bool
    sw = left_or_on a b (at r.south r.west)

    se : Bool
    se = left_or_on a b (at r.south r.east)

    nw : Bool
    nw = left_or_on a b (at r.north r.west)

    ne : Bool
    ne = left_or_on a b (at r.north r.east)

    corner : (v : Point) → left_or_on a b v ≡ true → Leftward a b v
    corner v e = leb-true (right_sum a b v) (left_sum a b v) e

-- and the other way, where the sides are in order
left_all : (a b : Point) {r : Rectangle} → Ordered r → LeftOf a b r → all_left a b r ≡ true
unfolding left_or_on
left_all a b {r} o l =
    ap₂ ◌&&◌
    (ap₂ ◌&&◌ (ap₂ ◌&&◌ (corner (at r.south r.west) (omega arith)) (corner (at r.south r.east) (omega arith)))
    (corner (at r.north r.west) (omega arith)))
    (corner (at r.north r.east) (omega arith))
  where
    corner : (v : Point) → Holds r v → left_or_on a b v ≡ true
    corner v h = le-leb (right_sum a b v) (left_sum a b v) (l v h)

module _ (e : Edge) (r : Rectangle) where
  -- The tests of the four sides, and of the two directions of the line
  abbrev westward : Bool
  westward = leb e.start.lon.0 r.west.0 && leb e.end.lon.0 r.west.0

  abbrev eastward : Bool
  eastward = leb r.east.0 e.start.lon.0 && leb r.east.0 e.end.lon.0

  abbrev southward : Bool
  southward = leb e.start.lat.0 r.south.0 && leb e.end.lat.0 r.south.0

  abbrev northward : Bool
  northward = leb r.north.0 e.start.lat.0 && leb r.north.0 e.end.lat.0

  abbrev forward : Bool
  forward = all_left e.start e.end r

  abbrev backward : Bool
  backward = all_left e.end e.start r

  -- What the test says of an edge
  pub missed : misses e r ≡ true → Missed e r
  unfolding misses
  missed t = right (either (beyond e r || forward) backward t)
    where
      across : (westward ≡ true) ⊎ (eastward ≡ true) → Missed e r
      across (inl h) = let t = two e.start.lon.0 r.west.0 e.end.lon.0 r.west.0 h in west t.0 t.1
      across (inr h) = let t = two r.east.0 e.start.lon.0 r.east.0 e.end.lon.0 h in east t.0 t.1

      below : ((westward || eastward) ≡ true) ⊎ (southward ≡ true) → Missed e r
      below (inl h) = across (either westward eastward h)
      below (inr h) = let t = two e.start.lat.0 r.south.0 e.end.lat.0 r.south.0 h in south t.0 t.1

      above : ((westward || eastward || southward) ≡ true) ⊎ (northward ≡ true) → Missed e r
      above (inl h) = below (either (westward || eastward) southward h)
      above (inr h) = let t = two r.north.0 e.start.lat.0 r.north.0 e.end.lat.0 h in north t.0 t.1

      left : (beyond e r ≡ true) ⊎ (forward ≡ true) → Missed e r
      left (inl h) = above (either (westward || eastward || southward) northward h)
      left (inr h) = on_left (all_left_lem e.start e.end r h)

      right : ((beyond e r || forward) ≡ true) ⊎ (backward ≡ true) → Missed e r
      right (inl h) = left (either (beyond e r) forward h)
      right (inr h) = on_right (all_left_lem e.end e.start r h)

  -- and the other way, where the sides are in order
  pub misses_so : Ordered r → Missed e r → misses e r ≡ true
  unfolding misses
  misses_so o (west h k) = either_left backward (either_left forward (either_left northward (either_left southward (either_left eastward (two_back h k)))))
  misses_so o (east h k) = either_left backward (either_left forward (either_left northward (either_left southward (either_right westward (two_back h k)))))
  misses_so o (south h k) = either_left backward (either_left forward (either_left northward (either_right (westward || eastward) (two_back h k))))
  misses_so o (north h k) = either_left backward (either_left forward (either_right (westward || eastward || southward) (two_back h k)))
  misses_so o (on_left l) = either_left backward (either_right (beyond e r) (left_all e.start e.end o l))
  misses_so o (on_right l) = either_right (beyond e r || forward) (left_all e.end e.start o l)

module _ {r s : Rectangle} (o : Ordered r) (h : Within r s) where
  -- An edge that misses the outer one misses the inner one
  missed_within : {e : Edge} → Missed e s → Missed e r
  missed_within (west k l) = west (omega arith) (omega arith)
  missed_within (east k l) = east (omega arith) (omega arith)
  missed_within (south k l) = south (omega arith) (omega arith)
  missed_within (north k l) = north (omega arith) (omega arith)
  missed_within (on_left l) = on_left (λ p k. l p (holds_within h k))
  missed_within (on_right l) = on_right (λ p k. l p (holds_within h k))

  -- An edge that misses a rectangle misses every rectangle within it
  pub misses_within : (e : Edge) → misses e s ≡ true → misses e r ≡ true
  misses_within e t = misses_so e r o (missed_within (missed e s t))

-- Ends of an edge of no length are one point
pub one_point : (e : Edge) → no_length e ≡ true → e.start ≡ e.end
one_point e h =
    let ts = both (eqb e.start.lat.0 e.end.lat.0) (eqb e.start.lon.0 e.end.lon.0) h in
    let lat = eqb-true e.start.lat.0 e.end.lat.0 ts.0 in
    let lon = eqb-true e.start.lon.0 e.end.lon.0 ts.1 in
    λ i. record { lat = record { 0 = lat i }; lon = record { 0 = lon i } }

-- and an edge from a point to itself has no length
pub no_length_lem : (a : Point) → no_length (edge a a) ≡ true
no_length_lem a = ap₂ ◌&&◌ (eq-eqb a.lat.0 a.lat.0 refl) (eq-eqb a.lon.0 a.lon.0 refl)

-- An edge of no length misses everything
pub misses_one_point : (r : Rectangle) (a : Point) → misses (edge a a) r ≡ true
unfolding misses left_or_on
misses_one_point r a = so (beyond (edge a a) r)
  where
    on : (q : Point) → left_or_on a a q ≡ true
    on q = le-leb (right_sum a a q) (left_sum a a q) (omega arith)

    all : all_left a a r ≡ true
    all =
        ap₂ ◌&&◌
        (ap₂ ◌&&◌ (ap₂ ◌&&◌ (on (at r.south r.west)) (on (at r.south r.east))) (on (at r.north r.west)))
        (on (at r.north r.east))

    so : (i : Bool) → (i || all_left a a r || all_left a a r) ≡ true
    so true = refl
    so false = ap (λ (t : Bool). t || all_left a a r) all

-- An edge misses either way
pub missed_back : {a b : Point} {r : Rectangle} → Missed (edge a b) r → Missed (edge b a) r
missed_back (west h k) = west k h
missed_back (east h k) = east k h
missed_back (south h k) = south k h
missed_back (north h k) = north k h
missed_back (on_left f) = on_right f
missed_back (on_right f) = on_left f

pub misses_other_way : (r : Rectangle) → Ordered r → (a b : Point) → misses (edge a b) r ≡ misses (edge b a) r
misses_other_way r o a b =
    same_truth (λ t. misses_so (edge b a) r o (missed_back (missed (edge a b) r t)))
    (λ t. misses_so (edge a b) r o (missed_back (missed (edge b a) r t)))

-- A point strictly within a rectangle, as a statement
record Strictly (r : Rectangle) (p : Point) : Type 0 where
  west : r.west.0 < p.lon.0
  east : p.lon.0 < r.east.0
  south : r.south.0 < p.lat.0
  north : p.lat.0 < r.north.0

-- What the tests say
amid : (low n high : ℕ) → strictly_between low n high ≡ true → (low < n) × (n < high)
amid low n high t = let ts = both (ltb low n) (ltb n high) t in (ltb-true low n ts.0, ltb-true n high ts.1)

strictly : (r : Rectangle) (p : Point) → strictly_within r p ≡ true → Strictly r p
strictly r p t =
    let ts = both (strictly_between r.west.0 p.lon.0 r.east.0) (strictly_between r.south.0 p.lat.0 r.north.0) t in
    let across = amid r.west.0 p.lon.0 r.east.0 ts.0 in
    let up = amid r.south.0 p.lat.0 r.north.0 ts.1 in
    record { west = across.0; east = across.1; south = up.0; north = up.1 }

module _ {r : Rectangle} {p : Point} (h : Strictly r p) (a b : Point) where
  -- A line through a point strictly within a rectangle, with all of the rectangle on its left, goes nowhere
  through_level : left_sum a b p ≡ right_sum a b p → LeftOf a b r → a.lat.0 ≡ b.lat.0
  through_level on l = case (compared a.lat.0 b.lat.0)
    where
      case : Compared a.lat.0 b.lat.0 → a.lat.0 ≡ b.lat.0
      case (less k) = omega (arith, l (at p.lat r.east) (omega arith), product_lt k h.east)
      case (same k) = k
      case (more k) = omega (arith, l (at p.lat r.west) (omega arith), product_lt k h.west)

  through_upright : left_sum a b p ≡ right_sum a b p → LeftOf a b r → a.lon.0 ≡ b.lon.0
  through_upright on l = case (compared a.lon.0 b.lon.0)
    where
      case : Compared a.lon.0 b.lon.0 → a.lon.0 ≡ b.lon.0
      case (less k) = omega (arith, l (at r.south p.lon) (omega arith), product_lt k h.south)
      case (same k) = k
      case (more k) = omega (arith, l (at r.north p.lon) (omega arith), product_lt k h.north)

-- An edge that starts strictly within a rectangle and misses it has no length
missed_start : {r : Rectangle} {a b : Point} → Strictly r a → Missed (edge a b) r → (a.lat.0 ≡ b.lat.0) × (a.lon.0 ≡ b.lon.0)
missed_start h (west k l) = absurd (omega arith)
missed_start h (east k l) = absurd (omega arith)
missed_start h (south k l) = absurd (omega arith)
missed_start h (north k l) = absurd (omega arith)
missed_start {r} {a} {b} h (on_left l) = (through_level h a b (omega arith) l, through_upright h a b (omega arith) l)
missed_start {r} {a} {b} h (on_right l) = (sym (through_level h b a (omega arith) l), sym (through_upright h b a (omega arith) l))

-- An edge that has a length, with an end strictly within a rectangle, meets it
pub misses_end : (a b : Point) (r : Rectangle) → end_within (edge a b) r ≡ true → misses (edge a b) r ≡ false
misses_end a b r t = at (misses (edge a b) r) refl
  where
    ts : ((strictly_within r a || strictly_within r b) ≡ true) × (not (no_length (edge a b)) ≡ true)
    ts = both (strictly_within r a || strictly_within r b) (not (no_length (edge a b))) t

    one : Missed (edge a b) r → (strictly_within r a ≡ true) ⊎ (strictly_within r b ≡ true) → no_length (edge a b) ≡ true
    one m (inl h) =
        let same = missed_start (strictly r a h) m in
        ap₂ ◌&&◌ (eq-eqb a.lat.0 b.lat.0 same.0) (eq-eqb a.lon.0 b.lon.0 same.1)
    one m (inr h) =
        let same = missed_start (strictly r b h) (missed_back m) in
        ap₂ ◌&&◌ (eq-eqb a.lat.0 b.lat.0 (sym same.0)) (eq-eqb a.lon.0 b.lon.0 (sym same.1))

    at : (i : Bool) → misses (edge a b) r ≡ i → misses (edge a b) r ≡ false
    at true m =
        absurd
        (false≢true (sym (ap not (one (missed (edge a b) r m) (either (strictly_within r a) (strictly_within r b) ts.0))) ∙ ts.1))
    at false m = m
