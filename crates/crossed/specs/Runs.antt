-- Runs: edges one after the other that all go strictly on one course. No two of them meet. Assumes nothing.
use Rattle.std.specs.Prelude.{ℕ, zero, suc, ◌+◌, ◌-◌, ◌/◌, ◌≤◌, ◌<◌, ◌≡◌, ◌⊎◌, Bool, true, false, cond, ◌&&◌, List, ltb, length}
use Rattle.std.proofs.Common.{eq-or-lt_of_le, arith, ap, ◌∙◌, sym, subst, inl, inr, ltb-true, ne_eqb}
use Rattle.facts.specs.Tests.{both}
use Rattle.facts.specs.Numbers.{either_way}
use Rattle.ground.specs.declared.Point.{Point}
use Rattle.edge.specs.Edge.{Edge, edge}
use Rattle.corners.specs.Corners.{corner_at}
use Rattle.boundary.specs.Listed.{edge_from}
use Rattle.pair.specs.Pair.{share_more}
use Rattle.pair.specs.PairLaws.{up, across, below, above, Clear, clear_so}
use Rattle.pair.specs.MoreLaws.{rising, falling, more_onward}
use Rattle.crossed.specs.declared.run.Course.{Course}
use Rattle.crossed.specs.declared.run.Course.TheVariants.{North, South, East, West}
use Rattle.crossed.specs.Meeting.{meeting}
use Rattle.crossed.specs.MeetingLaws.{apart_meeting, next_meeting}

-- A point lies strictly on a course from another
abbrev pub toward : Course → Point → Point → Bool
toward North a b = ltb a.lat.0 b.lat.0
toward South a b = ltb b.lat.0 a.lat.0
toward East a b = ltb a.lon.0 b.lon.0
toward West a b = ltb b.lon.0 a.lon.0

-- The same as a statement
abbrev pub Toward : Course → Point → Point → Type 0
Toward North a b = a.lat.0 < b.lat.0
Toward South a b = b.lat.0 < a.lat.0
Toward East a b = a.lon.0 < b.lon.0
Toward West a b = b.lon.0 < a.lon.0

pub toward_so : (course : Course) (a b : Point) → toward course a b ≡ true → Toward course a b
toward_so North a b t = ltb-true a.lat.0 b.lat.0 t
toward_so South a b t = ltb-true b.lat.0 a.lat.0 t
toward_so East a b t = ltb-true a.lon.0 b.lon.0 t
toward_so West a b t = ltb-true b.lon.0 a.lon.0 t

-- What lies on a course from what lies on it lies on it
toward_on : (course : Course) (a b c : Point) → Toward course a b → Toward course b c → Toward course a c
toward_on North a b c h k = omega arith
toward_on South a b c h k = omega arith
toward_on East a b c h k = omega arith
toward_on West a b c h k = omega arith

-- The extents of two edges on a course are apart where the second starts further on than the first ends
course_clear : (course : Course) (e f : Edge) → Toward course e.start e.end → Toward course f.start f.end
    → Toward course e.end f.start → Clear e f
course_clear North e f h k l = record { way = up; beside = below (omega arith) }
course_clear South e f h k l = record { way = up; beside = above (omega arith) }
course_clear East e f h k l = record { way = across; beside = below (omega arith) }
course_clear West e f h k l = record { way = across; beside = above (omega arith) }

-- and they share no more than their corner where one follows the other
course_more : (course : Course) (a b c : Point) → Toward course a b → Toward course b c → share_more (edge a b) (edge b c) ≡ false
course_more North a b c h k = more_onward a b c up (rising h k)
course_more South a b c h k = more_onward a b c up (falling k h)
course_more East a b c h k = more_onward a b c across (rising h k)
course_more West a b c h k = more_onward a b c across (falling k h)

-- The edges from one place to another all go on a course
pub record Going (numbers : List ℕ) (course : Course) (from to : ℕ) : Type 0 where
  pub within : to ≤ length numbers / 2
  pub goes : (x : ℕ) → from ≤ x → x < to → Toward course (edge_from numbers x).start (edge_from numbers x).end

-- No two of the edges from one place to another meet
pub record Free (numbers : List ℕ) (from to : ℕ) : Type 0 where
  pub within : to ≤ length numbers / 2
  pub free : (x y : ℕ) → from ≤ x → x < y → y < to → meeting numbers x y ≡ false

module _ (numbers : List ℕ) where
  -- An edge ends where the one from the next place starts
  pub ends_at : (x : ℕ) → x + 1 < length numbers / 2 → (edge_from numbers x).end ≡ (edge_from numbers (x + 1)).start
  ends_at x less =
      ap (λ (b : Bool). corner_at numbers (cond b 0 (x + 1))) (ne_eqb (x + 1) (length numbers / 2) (λ e. omega arith))

  -- No edge is between a place and one that is not after it
  pub going_none : (course : Course) {from to : ℕ} → to ≤ from → to ≤ length numbers / 2 → Going numbers course from to
  going_none course h k = record { within = k; goes = λ x l m. let none : ⊥ = omega arith in absurd none }

  -- One edge more goes on the course
  pub going_more : (course : Course) {from to : ℕ} → Going numbers course from to → to < length numbers / 2
      → toward course (edge_from numbers to).start (edge_from numbers to).end ≡ true → Going numbers course from (to + 1)
  going_more course {from} {to} g less t = record { within = omega arith; goes = goes }
    where
      goes : (x : ℕ) → from ≤ x → x < to + 1 → Toward course (edge_from numbers x).start (edge_from numbers x).end
      goes x h k = at (either_way to x)
        where
          at : (to ≤ x) ⊎ (x < to) → Toward course (edge_from numbers x).start (edge_from numbers x).end
          at (inl l) =
              let same : to ≡ x = omega arith in
              subst (λ (y : ℕ). Toward course (edge_from numbers y).start (edge_from numbers y).end) same
              (toward_so course (edge_from numbers to).start (edge_from numbers to).end t)
          at (inr l) = g.goes x h l

  module _ (course : Course) (from to : ℕ) (g : Going numbers course from to) where
    -- The edge from the place after next and each later one start further on than an edge ends
    further : (n x : ℕ) → from ≤ x → x + 1 + suc n < to
        → Toward course (edge_from numbers (x + 1)).start (edge_from numbers (x + 1 + suc n)).start
    further zero x h k =
        subst (Toward course (edge_from numbers (x + 1)).start) (ends_at (x + 1) (omega (arith, g.within))) (g.goes (x + 1) (omega arith) (omega arith))
    further (suc n) x h k =
        let last : ℕ = x + 1 + suc n in
        let same : last + 1 ≡ x + 1 + suc (suc n) = omega arith in
        toward_on course (edge_from numbers (x + 1)).start (edge_from numbers last).start (edge_from numbers (x + 1 + suc (suc n))).start
        (further n x h (omega arith))
        (subst (λ (k : ℕ). Toward course (edge_from numbers last).start (edge_from numbers k).start) same
        (subst (Toward course (edge_from numbers last).start) (ends_at last (omega (arith, g.within))) (g.goes last (omega arith) (omega arith))))

    -- so no two of them meet
    pub run_free : Free numbers from to
    run_free = record { within = g.within; free = free }
      where
        next : (x : ℕ) → from ≤ x → x + 1 < to → meeting numbers x (x + 1) ≡ false
        next x h k =
            let b = ends_at x (omega (arith, g.within)) in
            next_meeting numbers x (omega (arith, g.within))
            (ap (λ (p : Point). share_more (edge_from numbers x) (edge p (edge_from numbers (x + 1)).end)) (sym b)
            ∙ course_more course (edge_from numbers x).start (edge_from numbers x).end (edge_from numbers (x + 1)).end
            (g.goes x h (omega arith))
            (subst (λ (p : Point). Toward course p (edge_from numbers (x + 1)).end) (sym b) (g.goes (x + 1) (omega arith) k)))

        later : (n x : ℕ) → from ≤ x → x + 1 + suc n < to → meeting numbers x (x + 1 + suc n) ≡ false
        later n x h k =
            let y : ℕ = x + 1 + suc n in
            apart_meeting numbers x y
            (clear_so (edge_from numbers x) (edge_from numbers y)
            (course_clear course (edge_from numbers x) (edge_from numbers y) (g.goes x h (omega arith)) (g.goes y (omega arith) k)
            (subst (λ (p : Point). Toward course p (edge_from numbers y).start) (sym (ends_at x (omega (arith, g.within)))) (further n x h k))))

        free : (x y : ℕ) → from ≤ x → x < y → y < to → meeting numbers x y ≡ false
        free x y h k l = at (eq-or-lt_of_le k)
          where
            at : (suc x ≡ y) ⊎ (suc x < y) → meeting numbers x y ≡ false
            at (inl e) =
                let same : x + 1 ≡ y = omega arith in
                subst (λ (z : ℕ). meeting numbers x z ≡ false) same (next x h (omega arith))
            at (inr m) =
                let same : x + 1 + suc (y - (x + 2)) ≡ y = omega arith in
                subst (λ (z : ℕ). meeting numbers x z ≡ false) same (later (y - (x + 2)) x h (omega arith))

  -- There is but one edge from a place to the next, so no two meet
  pub one_free : (i : ℕ) → i < length numbers / 2 → Free numbers i (i + 1)
  one_free i less = record { within = omega arith; free = λ x y h k l. let none : ⊥ = omega arith in absurd none }

  -- nor do the two to the place after it where the way over their corners keeps to a course
  pub two_free : (course : Course) (i : ℕ) → i + 1 < length numbers / 2
      → (toward course (corner_at numbers i) (corner_at numbers (i + 1)) && toward course (corner_at numbers (i + 1)) (edge_from numbers (i + 1)).end) ≡ true
      → Free numbers i (i + 1 + 1)
  two_free course i less t =
      let ts = both (toward course (corner_at numbers i) (corner_at numbers (i + 1))) (toward course (corner_at numbers (i + 1)) (edge_from numbers (i + 1)).end) t in
      let none : Going numbers course i i = going_none course (omega arith) (omega arith) in
      let one = going_more course none (omega arith) (ap (toward course (corner_at numbers i)) (ends_at i less) ∙ ts.0) in
      run_free course i (i + 1 + 1) (going_more course one less ts.1)
