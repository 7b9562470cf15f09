-- The search for the first pair: what is known before each edge, and before each later one. Assumes nothing.
use Rattle.std.specs.Prelude.{ℕ, Some, None, ◌+◌, ◌/◌, ◌≤◌, ◌<◌, max, ◌≡◌, ◌⊎◌, true, false, List, length, get_or}
use Rattle.std.proofs.Common.{arith, subst, inl, inr}
use Rattle.facts.specs.Numbers.{either_way}
use Rattle.corners.specs.Corners.{corners_of}
use Rattle.boundary.specs.Listed.{edge_from}
use Rattle.crossed.specs.Crossed.{pair_of}
use Rattle.crossed.specs.Meeting.{meeting}
use Rattle.crossed.specs.MeetingLaws.{Tried, nowhere, pair_found, apart_meeting}
use Rattle.crossed.specs.Runs.{Free}
use Rattle.crossed.specs.NearRows.{NearRow, StillNear}
use Rattle.crossed.specs.Leaps.{Skipped}

-- Before an edge: no earlier one meets a later one, no two up to the end of the run meet, and what is near its row is told within it
pub record Before (numbers near : List ℕ) (run i : ℕ) : Type 0 where
  pub tried : Tried numbers i
  pub free : Free numbers i run
  pub still : StillNear numbers near i

pub before_first : (numbers near : List ℕ) → Before numbers near 0 0
before_first numbers near = record {
  tried = λ x h. let none : ⊥ = omega arith in absurd none;
  free = record { within = omega arith; free = λ x y h k l. let none : ⊥ = omega arith in absurd none };
  still = λ n. let none : ⊥ = n (omega arith) in absurd none;
}

-- Before a later edge: none between the two meets the first
pub record Between (numbers : List ℕ) (i j : ℕ) : Type 0 where
  pub after : i < j
  pub passed : (y : ℕ) → i < y → y < j → y < length numbers / 2 → meeting numbers i y ≡ false

module _ {numbers : List ℕ} {i : ℕ} where
  -- It starts past the run, at the first row that is near
  pub between_first : {near : List ℕ} {run j : ℕ} → i < length numbers / 2 → (i < run) × Free numbers i run → NearRow numbers near (i / 8)
      → j ≡ max run (get_or near (run / 8) 0) → Between numbers i j
  between_first {near} {run} {j} less f n e = record { after = omega (arith, f.0); passed = passed }
    where
      passed : (y : ℕ) → i < y → y < j → y < length numbers / 2 → meeting numbers i y ≡ false
      passed y h k l = at (either_way run y)
        where
          at : (run ≤ y) ⊎ (y < run) → meeting numbers i y ≡ false
          at (inl m) = apart_meeting numbers i y (n.clear i run y less (omega arith) (omega (arith, f.0)) m (omega arith) l)
          at (inr m) = f.1.free i y (omega arith) h m

  -- leaps over what is apart
  pub between_leap : {j k : ℕ} → Between numbers i j → j ≤ k → Skipped numbers (edge_from numbers i) j k → Between numbers i k
  between_leap {j} {k} b h s = record { after = omega (arith, b.after); passed = passed }
    where
      passed : (y : ℕ) → i < y → y < k → y < length numbers / 2 → meeting numbers i y ≡ false
      passed y l m o = at (either_way j y)
        where
          at : (j ≤ y) ⊎ (y < j) → meeting numbers i y ≡ false
          at (inl p) = apart_meeting numbers i y (s.apart y p m o)
          at (inr p) = b.passed y l p o

  -- to past the last where all later ones are
  pub between_last : {j : ℕ} → i < length numbers / 2 → Between numbers i j → Skipped numbers (edge_from numbers i) j (length numbers / 2)
      → Between numbers i (length numbers / 2)
  between_last {j} less b s = record { after = less; passed = passed }
    where
      passed : (y : ℕ) → i < y → y < length numbers / 2 → y < length numbers / 2 → meeting numbers i y ≡ false
      passed y l m o = at (either_way j y)
        where
          at : (j ≤ y) ⊎ (y < j) → meeting numbers i y ≡ false
          at (inl p) = apart_meeting numbers i y (s.apart y p m o)
          at (inr p) = b.passed y l p o

  -- and goes on past one that does not meet, or past the last
  pub between_next : {j : ℕ} → Between numbers i j → (j < length numbers / 2 → meeting numbers i j ≡ false) → Between numbers i (j + 1)
  between_next {j} b t = record { after = omega (arith, b.after); passed = passed }
    where
      passed : (y : ℕ) → i < y → y < j + 1 → y < length numbers / 2 → meeting numbers i y ≡ false
      passed y l m o = at (either_way j y)
        where
          at : (j ≤ y) ⊎ (y < j) → meeting numbers i y ≡ false
          at (inl p) =
              let same : j ≡ y = omega arith in
              subst (λ (z : ℕ). meeting numbers i z ≡ false) same (t (omega arith))
          at (inr p) = b.passed y l p o

  -- Past the last, the next edge comes
  pub before_next : {near old : List ℕ} {run was j : ℕ} → Before numbers old was i → (i < run) × Free numbers i run → NearRow numbers near (i / 8)
      → Between numbers i j → length numbers / 2 ≤ j → Before numbers near run (i + 1)
  before_next {near} {old} {run} {was} {j} before f n b over = record {
    tried = tried;
    free = record { within = f.1.within; free = λ x y h k l. f.1.free x y (omega arith) k l };
    still = λ off.
        let same : i / 8 ≡ (i + 1) / 8 = omega (arith, off) in
        subst (NearRow numbers near) same n;
  }
    where
      tried : Tried numbers (i + 1)
      tried x h y l m = at (either_way i x)
        where
          at : (i ≤ x) ⊎ (x < i) → meeting numbers x y ≡ false
          at (inl p) =
              let same : i ≡ x = omega arith in
              subst (λ (z : ℕ). meeting numbers z y ≡ false) same (b.passed y (omega arith) (omega arith) m)
          at (inr p) = before.tried x p y l m

-- Past the last edge there is no pair
pub search_nowhere : {numbers near : List ℕ} {run i : ℕ} → Before numbers near run i → length numbers / 2 ≤ i
    → None ≡ pair_of (corners_of numbers)
search_nowhere {numbers} before over = nowhere numbers (λ x h. before.tried x (omega arith))

-- and two that meet are the first pair
pub search_pair : {numbers near : List ℕ} {run i j : ℕ} → Before numbers near run i → Between numbers i j → j < length numbers / 2
    → meeting numbers i j ≡ true → Some (i, j) ≡ pair_of (corners_of numbers)
search_pair {numbers} {near} {run} {i} {j} before b less t =
    pair_found numbers i j b.after less before.tried (λ y h k. b.passed y (omega arith) k (omega arith)) t
