-- Rows: each eight edges one after the other, with their extents from the south-west corner to the north-east corner. Edges of rows that
-- are apart are apart. Assumes nothing.
use Rattle.std.specs.Prelude.{ℕ, ◌+◌, ◌*◌, ◌/◌, ◌≤◌, ◌<◌, min, max, ◌≡◌, refl, ◌⊎◌, Bool, true, false, ◌||◌, List, ltb, length, get_or}
use Rattle.std.proofs.Common.{arith, ap, ap₂, ◌∙◌, sym, subst, inl, inr, ltb-true}
use Rattle.facts.specs.Tests.{either, either_left}
use Rattle.facts.specs.Numbers.{either_way}
use Rattle.ground.specs.declared.Point.{Point}
use Rattle.ground.specs.Levels.{lat, lon}
use Rattle.edge.specs.Edge.{Edge, edge}
use Rattle.boundary.specs.Listed.{edge_in, edge_from, with_edge}
use Rattle.boundary.specs.ListedLaws.{edge_there, edge_before}
use Rattle.pair.specs.PairLaws.{Way, up, across, along, either_along, Beside, below, above, Clear}
use Rattle.crossed.specs.Runs.{ends_at}

-- The lesser, and the greater, of each direction of two points
abbrev pub lowest : Point → Point → Point
lowest a b = record { lat = lat (min a.lat.0 b.lat.0); lon = lon (min a.lon.0 b.lon.0) }

abbrev pub highest : Point → Point → Point
highest a b = record { lat = lat (max a.lat.0 b.lat.0); lon = lon (max a.lon.0 b.lon.0) }

-- Extents, from the south-west corner to the north-east corner, hold a point
abbrev pub Spans : Edge → Point → Type 0
Spans d p = (w : Way) → (along w d.start ≤ along w p) × (along w p ≤ along w d.end)

-- and an edge
abbrev pub Held : Edge → Edge → Type 0
Held d e = Spans d e.start × Spans d e.end

-- Extents widened to a point hold it, and what they held
pub spans_wider : (d : Edge) (p q : Point) → Spans d q → Spans (edge (lowest d.start p) (highest d.end p)) q
spans_wider d p q h up = let k = h up in (omega arith, omega arith)
spans_wider d p q h across = let k = h across in (omega arith, omega arith)

pub spans_new : (d : Edge) (p : Point) → Spans (edge (lowest d.start p) (highest d.end p)) p
spans_new d p up = (omega arith, omega arith)
spans_new d p across = (omega arith, omega arith)

pub spans_self : (p : Point) → Spans (edge p p) p
spans_self p w = (omega arith, omega arith)

-- The extents of an edge are apart from a row's, in a direction
abbrev apart_by : Way → Edge → Edge → Bool
apart_by w e r =
    ltb (max (along w e.start) (along w e.end)) (along w r.start) || ltb (along w r.end) (min (along w e.start) (along w e.end))

abbrev pub row_apart : Edge → Edge → Bool
row_apart e r = apart_by up e r || apart_by across e r

-- The numbers of a row as they stand in a room tell by the latitudes, or else by the longitudes
module _ (extents : List ℕ) (row : ℕ) (a b : Point) where
  abbrev lats_apart : Bool
  lats_apart = ltb (max a.lat.0 b.lat.0) (get_or extents (4 * row) 0) || ltb (get_or extents (4 * row + 2) 0) (min a.lat.0 b.lat.0)

  abbrev lons_apart : Bool
  lons_apart = ltb (max a.lon.0 b.lon.0) (get_or extents (4 * row + 1) 0) || ltb (get_or extents (4 * row + 3) 0) (min a.lon.0 b.lon.0)

  by_lats : lats_apart ≡ apart_by up (edge a b) (edge_in extents row)
  by_lats =
      let south : 4 * row ≡ 2 * (2 * row) = omega arith in
      let north : 4 * row + 2 ≡ 2 * (2 * row + 1) = omega arith in
      ap₂ (λ (m n : ℕ). ltb (max a.lat.0 b.lat.0) (get_or extents m 0) || ltb (get_or extents n 0) (min a.lat.0 b.lat.0)) south north

  by_lons : lons_apart ≡ apart_by across (edge a b) (edge_in extents row)
  by_lons =
      let west : 4 * row + 1 ≡ 2 * (2 * row) + 1 = omega arith in
      let east : 4 * row + 3 ≡ 2 * (2 * row + 1) + 1 = omega arith in
      ap₂ (λ (m n : ℕ). ltb (max a.lon.0 b.lon.0) (get_or extents m 0) || ltb (get_or extents n 0) (min a.lon.0 b.lon.0)) west east

  pub apart_first : {t : Bool} → t ≡ lats_apart → t ≡ true → true ≡ row_apart (edge a b) (edge_in extents row)
  apart_first e k = sym (either_left (apart_by across (edge a b) (edge_in extents row)) (sym by_lats ∙ sym e ∙ k))

  pub apart_second : {t u : Bool} → t ≡ lats_apart → t ≡ false → u ≡ lons_apart → u ≡ row_apart (edge a b) (edge_in extents row)
  apart_second e k f =
      f ∙ by_lons ∙ ap (λ (t : Bool). t || apart_by across (edge a b) (edge_in extents row)) (sym k ∙ e ∙ by_lats)

-- so that the edge is apart from each of the row
pub row_clear : (e r f : Edge) → row_apart e r ≡ true → Held r f → Clear e f
row_clear e r f t h = either_along (λ (w : Way). apart_by w e r ≡ true) one (either (apart_by up e r) (apart_by across e r) t)
  where
    one : (w : Way) → apart_by w e r ≡ true → Clear e f
    one w k = record { way = w; beside = at (either _ _ k) }
      where
        low : (along w r.start ≤ along w f.start) × (along w f.start ≤ along w r.end)
        low = h.0 w

        high : (along w r.start ≤ along w f.end) × (along w f.end ≤ along w r.end)
        high = h.1 w

        at : (ltb (max (along w e.start) (along w e.end)) (along w r.start) ≡ true)
            ⊎ (ltb (along w r.end) (min (along w e.start) (along w e.end)) ≡ true)
            → Beside (along w e.start) (along w e.end) (along w f.start) (along w f.end)
        at (inl l) =
            below (omega (arith, ltb-true (max (along w e.start) (along w e.end)) (along w r.start) l, low, high))
        at (inr l) =
            above (omega (arith, ltb-true (along w r.end) (min (along w e.start) (along w e.end)) l, low, high))

-- What is apart from extents is apart from each edge that they hold
pub held_clear : (d e f : Edge) → Held d e → Clear d f → Clear e f
held_clear d e f h c = record { way = c.way; beside = at (h.0 c.way) (h.1 c.way) c.beside }
  where
    w : Way
    w = c.way

    at : (along w d.start ≤ along w e.start) × (along w e.start ≤ along w d.end)
        → (along w d.start ≤ along w e.end) × (along w e.end ≤ along w d.end)
        → Beside (along w d.start) (along w d.end) (along w f.start) (along w f.end)
        → Beside (along w e.start) (along w e.end) (along w f.start) (along w f.end)
    at i j (below l) = below (omega (arith, i, j))
    at i j (above l) = above (omega (arith, i, j))

-- How many rows there are
abbrev pub rows_of : List ℕ → ℕ
rows_of numbers = (length numbers / 2 + 7) / 8

-- Extents that are listed hold the edges of so many rows
pub record RowsTo (numbers extents : List ℕ) (rows : ℕ) : Type 0 where
  pub held : (x : ℕ) → x < length numbers / 2 → x < 8 * rows → Held (edge_in extents (x / 8)) (edge_from numbers x)

pub rows_none : (numbers extents : List ℕ) → RowsTo numbers extents 0
rows_none numbers extents = record { held = λ x h k. let none : ⊥ = omega arith in absurd none }

-- A row being listed: its extents so far hold the edges before a place, and where the next starts
pub record Row (numbers : List ℕ) (from i : ℕ) (d : Edge) : Type 0 where
  pub held : (x : ℕ) → from ≤ x → x < i → Held d (edge_from numbers x)
  pub next : i < length numbers / 2 → Spans d (edge_from numbers i).start

pub row_begin : (numbers : List ℕ) (from : ℕ) → Row numbers from from (edge (edge_from numbers from).start (edge_from numbers from).start)
row_begin numbers from =
    record { held = λ x h k. let none : ⊥ = omega arith in absurd none; next = λ h. spans_self (edge_from numbers from).start }

pub row_again : {numbers : List ℕ} {from i : ℕ} {d : Edge} → Row numbers from i d → i < length numbers / 2
    → Row numbers from (i + 1) (edge (lowest d.start (edge_from numbers i).end) (highest d.end (edge_from numbers i).end))
row_again {numbers} {from} {i} {d} r less = record { held = held; next = next }
  where
    p : Point
    p = (edge_from numbers i).end

    wider : Edge
    wider = edge (lowest d.start p) (highest d.end p)

    next : i + 1 < length numbers / 2 → Spans wider (edge_from numbers (i + 1)).start
    next h = subst (Spans wider) (ends_at numbers i h) (spans_new d p)

    held : (x : ℕ) → from ≤ x → x < i + 1 → Held wider (edge_from numbers x)
    held x h k = at (either_way i x)
      where
        at : (i ≤ x) ⊎ (x < i) → Held wider (edge_from numbers x)
        at (inl l) =
            let same : i ≡ x = omega arith in
            subst (λ (y : ℕ). Held wider (edge_from numbers y)) same (spans_wider d p (edge_from numbers i).start (r.next less), spans_new d p)
        at (inr l) =
            let h = r.held x h l in
            (spans_wider d p (edge_from numbers x).start h.0, spans_wider d p (edge_from numbers x).end h.1)

-- One row more is listed
pub row_listed : {numbers extents : List ℕ} {row to i : ℕ} {d : Edge} → RowsTo numbers extents row → row < length extents / 4
    → to ≡ min (length numbers / 2) (8 * row + 8) → to ≤ i → Row numbers (8 * row) i d → RowsTo numbers (with_edge extents row d) (row + 1)
row_listed {numbers} {extents} {row} {to} {i} {d} before fits e past r = record { held = held }
  where
    held : (x : ℕ) → x < length numbers / 2 → x < 8 * (row + 1) → Held (edge_in (with_edge extents row d) (x / 8)) (edge_from numbers x)
    held x h k = at (either_way (8 * row) x)
      where
        at : (8 * row ≤ x) ⊎ (x < 8 * row) → Held (edge_in (with_edge extents row d) (x / 8)) (edge_from numbers x)
        at (inl l) =
            let same : row ≡ x / 8 = omega arith in
            subst (λ (y : ℕ). Held (edge_in (with_edge extents row d) y) (edge_from numbers x)) same
            (subst (λ (f : Edge). Held f (edge_from numbers x)) (sym (edge_there extents row d fits)) (r.held x l (omega arith)))
        at (inr l) =
            subst (λ (f : Edge). Held f (edge_from numbers x)) (sym (edge_before extents row d fits (x / 8) (omega arith))) (before.held x h l)

-- A loop has listed the rows before one
pub record Rowing (numbers : List ℕ) (size : ℕ) (extents : List ℕ) (row : ℕ) : Type 0 where
  pub long : length extents ≡ size
  pub few : row ≤ rows_of numbers
  pub rows : RowsTo numbers extents row

pub rowing_begin : (numbers extents : List ℕ) → Rowing numbers (length extents) extents 0
rowing_begin numbers extents = record { long = refl; few = omega arith; rows = rows_none numbers extents }

pub rowing_again : {numbers extents later : List ℕ} {size row : ℕ} → Rowing numbers size extents row → 8 * row < length numbers / 2
    → length later ≡ length extents → RowsTo numbers later (row + 1) → Rowing numbers size later (row + 1)
rowing_again r less long rows = record { long = long ∙ r.long; few = omega arith; rows = rows }

-- and where no edge is left, all
pub rowing_end : {numbers extents : List ℕ} {size row : ℕ} → Rowing numbers size extents row → length numbers / 2 ≤ 8 * row
    → RowsTo numbers extents (rows_of numbers)
rowing_end r over = record { held = λ x h k. r.rows.held x h (omega arith) }
