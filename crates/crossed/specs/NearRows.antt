-- What is near a row: for each later row a place up to which the rows are apart from it, and so their edges from its edges. Assumes nothing.
use Rattle.std.specs.Prelude.{ℕ, ◌-◌, ◌*◌, ◌/◌, ◌%◌, ◌≤◌, ◌<◌, ◌≡◌, refl, ◌⊎◌, true, false, List, [], ◌∷◌, length, get_or, set}
use Rattle.std.proofs.Common.{arith, ◌∙◌, sym, subst, inl, inr, length-set, get_or-set_same, get_or-set_other}
use Rattle.facts.specs.Numbers.{either_way}
use Rattle.edge.specs.Edge.{Edge}
use Rattle.boundary.specs.Listed.{edge_in, edge_from}
use Rattle.pair.specs.Pair.{overlapping}
use Rattle.pair.specs.PairLaws.{clear_so}
use Rattle.crossed.specs.Rows.{Held, row_apart, row_clear, held_clear, rows_of, RowsTo}

-- The rows from one on to where a place lies are apart from a row
abbrev pub AheadOf : List ℕ → ℕ → ℕ → ℕ → Type 0
AheadOf extents own row place =
    (y : ℕ) → 8 * row ≤ y → y < place → row_apart (edge_in extents own) (edge_in extents (y / 8)) ≡ true

-- For each row from one on a place is told up to which the rows are apart from a row
pub record Near (extents : List ℕ) (own rows : ℕ) (near : List ℕ) (row : ℕ) : Type 0 where
  pub told : (r : ℕ) → row ≤ r → r ≤ rows → AheadOf extents own r (get_or near r 0)

-- A loop has told it from the last row back to one, with the place told of that row
pub record Nearing (extents : List ℕ) (own rows size : ℕ) (near : List ℕ) (row first : ℕ) : Type 0 where
  pub long : length near ≡ size
  pub fits : rows < size
  pub from : own ≤ row
  pub upto : row ≤ rows
  pub behind : Near extents own rows near row
  pub ahead : AheadOf extents own row first

module _ {extents : List ℕ} {own rows : ℕ} where
  -- What is told of a row and of each later one is told from that row on
  near_set : (near : List ℕ) (row first : ℕ) → row < length near
      → ((r : ℕ) → row < r → r ≤ rows → AheadOf extents own r (get_or near r 0)) → AheadOf extents own row first
      → Near extents own rows (set near row first) row
  near_set near row first fits later ahead = record { told = told }
    where
      told : (r : ℕ) → row ≤ r → r ≤ rows → AheadOf extents own r (get_or (set near row first) r 0)
      told r h k = at (either_way r row)
        where
          at : (r ≤ row) ⊎ (row < r) → AheadOf extents own r (get_or (set near row first) r 0)
          at (inl l) =
              let same : row ≡ r = omega arith in
              subst (λ (x : ℕ). AheadOf extents own x (get_or (set near row first) x 0)) same
              (subst (AheadOf extents own row) (sym (get_or-set_same near row first 0 fits)) ahead)
          at (inr l) = subst (AheadOf extents own r) (sym (get_or-set_other near row r first 0 (λ e. omega arith))) (later r l k)

  -- From past the last row on none is near
  pub nearing_begin : (near : List ℕ) → rows < length near → own ≤ rows
      → Nearing extents own rows (length (set near rows (8 * rows))) (set near rows (8 * rows)) rows (8 * rows)
  nearing_begin near fits h =
      let none : AheadOf extents own rows (8 * rows) = λ y i j. let none : ⊥ = omega arith in absurd none in
      record {
        long = refl;
        fits = subst (λ (n : ℕ). rows < n) (sym (length-set near rows (8 * rows))) fits;
        from = h;
        upto = omega arith;
        behind = near_set near rows (8 * rows) fits (λ r i j. let none : ⊥ = omega arith in absurd none) none;
        ahead = none;
      }

  module _ {size row first : ℕ} {near : List ℕ} (n : Nearing extents own rows size near row first) (less : own < row) where
    -- One row more
    nearing_next : (place : ℕ) → AheadOf extents own (row - 1) place → Nearing extents own rows size (set near (row - 1) place) (row - 1) place
    nearing_next place ahead = record {
      long = length-set near (row - 1) place ∙ n.long;
      fits = n.fits;
      from = omega arith;
      upto = omega (arith, n.upto);
      behind = near_set near (row - 1) place (omega (arith, n.long, n.fits, n.upto)) (λ r i j. n.behind.told r (omega arith) j) ahead;
      ahead = ahead;
    }

    -- where it starts, up to which there is none
    pub nearing_there : {place : ℕ} → place ≡ 8 * (row - 1) → Nearing extents own rows size (set near (row - 1) place) (row - 1) place
    nearing_there {place} e = nearing_next place (λ y i j. let none : ⊥ = omega arith in absurd none)

    -- or, as it is apart, the place told before
    pub nearing_later : {place : ℕ} → place ≡ first → row_apart (edge_in extents own) (edge_in extents (row - 1)) ≡ true
        → Nearing extents own rows size (set near (row - 1) place) (row - 1) place
    nearing_later {place} e apart = nearing_next place ahead
      where
        ahead : AheadOf extents own (row - 1) place
        ahead y i j = at (either_way (8 * row) y)
          where
            at : (8 * row ≤ y) ⊎ (y < 8 * row) → row_apart (edge_in extents own) (edge_in extents (y / 8)) ≡ true
            at (inl l) = n.ahead y l (omega arith)
            at (inr l) =
                let same : row - 1 ≡ y / 8 = omega arith in
                subst (λ (r : ℕ). row_apart (edge_in extents own) (edge_in extents r) ≡ true) same apart

  -- Back at the own row all is told
  pub nearing_end : {size row first : ℕ} {near : List ℕ} → Nearing extents own rows size near row first → row ≤ own → Near extents own rows near own
  nearing_end n h = record { told = λ r i j. n.behind.told r (omega (arith, n.from)) j }

-- The edges from a place on up to the place told of its row are apart from each of a row
pub record NearRow (numbers near : List ℕ) (own : ℕ) : Type 0 where
  pub clear : (x from y : ℕ) → x < length numbers / 2 → x / 8 ≡ own → x ≤ from → from ≤ y → y < get_or near (from / 8) 0 → y < length numbers / 2
      → overlapping (edge_from numbers x) (edge_from numbers y) ≡ false

pub near_row : {numbers extents near : List ℕ} {own : ℕ} → RowsTo numbers extents (rows_of numbers) → Near extents own (rows_of numbers) near own
    → NearRow numbers near own
near_row {numbers} {extents} {near} {own} rows n = record {
  clear = λ x from y h e k l m o.
      let d : Edge = edge_in extents own in
      let mine : Held d (edge_from numbers x) =
      subst (λ (r : ℕ). Held (edge_in extents r) (edge_from numbers x)) e (rows.held x h (omega arith)) in
      let theirs : Held (edge_in extents (y / 8)) (edge_from numbers y) = rows.held y o (omega arith) in
      let apart : row_apart d (edge_in extents (y / 8)) ≡ true = n.told (from / 8) (omega arith) (omega arith) y (omega arith) m in
      clear_so (edge_from numbers x) (edge_from numbers y)
      (held_clear d (edge_from numbers x) (edge_from numbers y) mine (row_clear d (edge_in extents (y / 8)) (edge_from numbers y) apart theirs));
}

-- What is near the row of a place is told where the place does not start it
abbrev pub StillNear : List ℕ → List ℕ → ℕ → Type 0
StillNear numbers near i = (i % 8 ≡ 0 → ⊥) → NearRow numbers near (i / 8)

-- Without rows nothing is told
pub near_none : (numbers near : List ℕ) (own : ℕ) → length near ≡ 0 → NearRow numbers near own
near_none numbers [] own e = record { clear = λ x from y h i k l m o. let none : ⊥ = omega arith in absurd none }
near_none numbers (n ∷ near) own e = let none : ⊥ = omega arith in absurd none

-- The rooms for rows: none, or such as hold all of them
pub data Rooms (numbers extents : List ℕ) (size : ℕ) : Type 0 where
  without : size ≡ 0 → Rooms numbers extents size
  with : rows_of numbers ≤ length extents / 4 → rows_of numbers < size → RowsTo numbers extents (rows_of numbers) → Rooms numbers extents size

-- and where there is one, they hold all
pub rooms_held : {numbers extents : List ℕ} {size : ℕ} → Rooms numbers extents size → 0 < size
    → (rows_of numbers ≤ length extents / 4) × ((rows_of numbers < size) × RowsTo numbers extents (rows_of numbers))
rooms_held (without e) h = let none : ⊥ = omega arith in absurd none
rooms_held (with few less rows) h = (few, (less, rows))
