-- Leaps: the edges that are passed over are apart from an edge. Assumes nothing.
use Rattle.std.specs.Prelude.{ℕ, Option, Some, None, ◌+◌, ◌*◌, ◌/◌, ◌≤◌, ◌<◌, max, ◌≡◌, refl, ◌⊎◌, true, false, List, length, get_or}
use Rattle.std.proofs.Common.{arith, subst, inl, inr}
use Rattle.facts.specs.Tests.{fails_left, fails_right}
use Rattle.facts.specs.Numbers.{either_way}
use Rattle.edge.specs.Edge.{Edge}
use Rattle.boundary.specs.Listed.{edge_in, edge_from}
use Rattle.pair.specs.Pair.{overlap, overlapping}
use Rattle.pair.specs.PairLaws.{Way, up, across, along, clear_so}
use Rattle.crossed.specs.Rows.{Held, row_apart, row_clear, rows_of, RowsTo}
use Rattle.crossed.specs.NearRows.{NearRow}

-- The edges from one place to another are apart from an edge
pub record Skipped (numbers : List ℕ) (e : Edge) (from to : ℕ) : Type 0 where
  pub apart : (y : ℕ) → from ≤ y → y < to → y < length numbers / 2 → overlapping e (edge_from numbers y) ≡ false

-- A leap from one place to another finds the first edge there that is not apart, or that all of them are
abbrev pub Leapt : List ℕ → Edge → ℕ → ℕ → Option ℕ → Type 0
Leapt numbers e from to (Some j) = (from ≤ j) × ((j < to) × Skipped numbers e from j)
Leapt numbers e from to None = Skipped numbers e from to

-- The extents of two edges are apart where they do not overlap in a direction
pub apart_along : (e f : Edge) (w : Way) → overlap (along w e.start) (along w e.end) (along w f.start) (along w f.end) ≡ false
    → overlapping e f ≡ false
unfolding overlapping
apart_along e f up h = fails_left (overlap e.start.lon.0 e.end.lon.0 f.start.lon.0 f.end.lon.0) h
apart_along e f across h = fails_right (overlap e.start.lat.0 e.end.lat.0 f.start.lat.0 f.end.lat.0) h

-- At first nothing is skipped
pub skipped_none : (numbers : List ℕ) (e : Edge) (from : ℕ) → Skipped numbers e from from
skipped_none numbers e from = record { apart = λ y h k l. let none : ⊥ = omega arith in absurd none }

-- What is skipped to a place is skipped to an earlier one
pub skipped_less : {numbers : List ℕ} {e : Edge} {from to : ℕ} → Skipped numbers e from to → (less : ℕ) → less ≤ to → Skipped numbers e from less
skipped_less s less h = record { apart = λ y k l m. s.apart y k (omega arith) m }

-- Two stretches, one after the other, make one
pub skipped_on : {numbers : List ℕ} {e : Edge} {from mid to : ℕ} → Skipped numbers e from mid → Skipped numbers e mid to → Skipped numbers e from to
skipped_on {numbers} {e} {from} {mid} {to} s t = record { apart = apart }
  where
    apart : (y : ℕ) → from ≤ y → y < to → y < length numbers / 2 → overlapping e (edge_from numbers y) ≡ false
    apart y h k l = at (either_way mid y)
      where
        at : (mid ≤ y) ⊎ (y < mid) → overlapping e (edge_from numbers y) ≡ false
        at (inl m) = t.apart y m k l
        at (inr m) = s.apart y h m l

-- One edge more is skipped where it is apart
pub skipped_again : {numbers : List ℕ} {e : Edge} {from to : ℕ} → Skipped numbers e from to → overlapping e (edge_from numbers to) ≡ false
    → Skipped numbers e from (to + 1)
skipped_again {numbers} {e} {from} {to} s o = skipped_on s (record { apart = one })
  where
    one : (y : ℕ) → to ≤ y → y < to + 1 → y < length numbers / 2 → overlapping e (edge_from numbers y) ≡ false
    one y h k l =
        let same : to ≡ y = omega arith in
        subst (λ (z : ℕ). overlapping e (edge_from numbers z) ≡ false) same o

-- and the rest of a row where the row is apart
pub skipped_row : {numbers extents : List ℕ} {e : Edge} {from to : ℕ} → RowsTo numbers extents (rows_of numbers) → to ≤ 8 * (from / 8) + 8
    → row_apart e (edge_in extents (from / 8)) ≡ true → Skipped numbers e from to
skipped_row {numbers} {extents} {e} {from} {to} rows most t = record { apart = apart }
  where
    apart : (y : ℕ) → from ≤ y → y < to → y < length numbers / 2 → overlapping e (edge_from numbers y) ≡ false
    apart y h k l =
        let same : y / 8 ≡ from / 8 = omega arith in
        let theirs : Held (edge_in extents (from / 8)) (edge_from numbers y) =
        subst (λ (r : ℕ). Held (edge_in extents r) (edge_from numbers y)) same (rows.held y l (omega arith)) in
        clear_so e (edge_from numbers y) (row_clear e (edge_in extents (from / 8)) (edge_from numbers y) t theirs)

-- and the edges up to the place told of a row
pub skipped_ahead : {numbers near : List ℕ} {i : ℕ} → NearRow numbers near (i / 8) → i < length numbers / 2 → (from : ℕ) → i ≤ from
    → Skipped numbers (edge_from numbers i) from (max from (get_or near (from / 8) 0))
skipped_ahead {i = i} n less from h = record { apart = λ y k l m. n.clear i from y less refl h k (omega arith) m }
