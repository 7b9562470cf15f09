-- The laws of edges by places: the boundary's edges are those from the places one by one, and the first pair of them is found by places.
-- Assumes nothing.
use Rattle.std.specs.Prelude.{ℕ, Option, Some, None, zero, suc, ◌+◌, ◌-◌, ◌/◌, ◌≤◌, ◌<◌, ◌≡◌, Bool, ◌&&◌, eqb, length}
use Rattle.std.proofs.Common.{add-one, ◌∙◌}
use native.Mathlib.Omega.{arith}
use Rattle.std.proofs.Math.Path.{refl, ap, ap₂, sym}
use Rattle.std.proofs.Math.Bool.{true, false, cond, not}
use mathlib.Core.List.{List, [], ◌∷◌}
use Rattle.std.proofs.Math.ListN.{get_or}
use Rattle.std.proofs.lemmas.Bool.{not-true, eqb-false}
use Rattle.facts.specs.Tests.{both, fails_left, fails_right}
use Rattle.edge.specs.Edge.{Edge, no_length}
use Rattle.corners.specs.Corners.{corners_of}
use Rattle.boundary.specs.Boundary.{with_length, places_from}
use Rattle.boundary.specs.Listed.{place_after, edge_from}
use Rattle.boundary.specs.ListedLaws.{edges_after, edges_after_lem, edges_over, all_places}
use Rattle.pair.specs.Pair.{overlapping, share_more}
use Rattle.pair.specs.PairLaws.{apart_share, apart_more, overlapping_comm}
use Rattle.crossed.specs.Crossed.{Placed, placed, placed_of, meet, or_else, first_later, first_pair, pair_of}
use Rattle.crossed.specs.Around.{meet_next}
use Rattle.crossed.specs.Meeting.{start_from, following, placed_at, meeting}

-- The place after one of so many is one of them
pub after_within : (count i : ℕ) → i < count → place_after count i < count
after_within count i h = at (eqb (i + 1) count) refl
  where
    at : (b : Bool) → eqb (i + 1) count ≡ b → cond b 0 (i + 1) < count
    at true e = omega arith
    at false e = let k = eqb-false (i + 1) count e in omega (arith, k)

module _ (numbers : List ℕ) where
  -- The edge from a place starts there if it has a length, else the first from the next place on
  pub start_here : (i none : ℕ) → i < length numbers / 2 → no_length (edge_from numbers i) ≡ false → start_from numbers i none ≡ i
  unfolding start_from
  start_here i none less e =
      let rest = places_from (suc i) (edges_after numbers (i + 1)) in
      ap (λ (es : List Edge). get_or (places_from i es) 0 none) (edges_after_lem numbers i less)
      ∙ ap (λ (b : Bool). get_or (cond b rest (i ∷ rest)) 0 none) e

  pub start_later : (i none : ℕ) → i < length numbers / 2 → no_length (edge_from numbers i) ≡ true
      → start_from numbers i none ≡ start_from numbers (i + 1) none
  unfolding start_from
  start_later i none less e =
      let es = edges_after numbers (i + 1) in
      ap (λ (es : List Edge). get_or (places_from i es) 0 none) (edges_after_lem numbers i less)
      ∙ ap (λ (b : Bool). get_or (cond b (places_from (suc i) es) (i ∷ places_from (suc i) es)) 0 none) e
      ∙ ap (λ (k : ℕ). get_or (places_from k es) 0 none) (sym (add-one i))

  -- and past the last place none does
  pub start_none : (i none : ℕ) → length numbers / 2 ≤ i → start_from numbers i none ≡ none
  unfolding start_from
  start_none i none over = ap (λ (es : List Edge). get_or (places_from i es) 0 none) (edges_over numbers i over)

  -- The boundary's edges from a place on
  abbrev from : ℕ → List Placed
  from i = placed (start_from numbers 0 0) (places_from i (edges_after numbers i)) (with_length (edges_after numbers i))

  -- From the first place on they are all
  from_all : placed_of (corners_of numbers) ≡ from 0
  unfolding placed_of start_from
  from_all =
      let all = all_places numbers in
      ap₂ (λ (ps : List ℕ) (es : List Edge). placed (get_or ps 0 0) ps es) all.1 all.0

  -- from past the last place on there are none
  from_none : (i : ℕ) → length numbers / 2 ≤ i → from i ≡ []
  from_none i over =
      ap (λ (es : List Edge). placed (start_from numbers 0 0) (places_from i es) (with_length es)) (edges_over numbers i over)

  module _ (i : ℕ) (less : i < length numbers / 2) where
    abbrev rest : List Edge
    rest = edges_after numbers (i + 1)

    -- by whether the one from the place has a length
    by_length : (b : Bool) → no_length (edge_from numbers i) ≡ b
        → from i
        ≡ placed (start_from numbers 0 0) (cond b (places_from (i + 1) rest) (i ∷ places_from (i + 1) rest)) (cond b (with_length rest) (edge_from numbers i ∷ with_length rest))
    by_length b e =
        ap (λ (es : List Edge). placed (start_from numbers 0 0) (places_from i es) (with_length es)) (edges_after_lem numbers i less)
        ∙ ap₂
        (λ (t : Bool) (k : ℕ). placed (start_from numbers 0 0) (cond t (places_from k rest) (i ∷ places_from k rest)) (cond t (with_length rest) (edge_from numbers i ∷ with_length rest)))
        e (sym (add-one i))

    -- An edge of no length is none of them
    from_skip : no_length (edge_from numbers i) ≡ true → from i ≡ from (i + 1)
    from_skip = by_length true

    -- and any other is the first
    from_first : no_length (edge_from numbers i) ≡ false → from i ≡ placed_at numbers i ∷ from (i + 1)
    unfolding start_from
    from_first = by_length false

  -- Where the edges from two places meet, both have a length
  lengths : (i j : ℕ) → meeting numbers i j ≡ true
      → (no_length (edge_from numbers i) ≡ false) × ((no_length (edge_from numbers j) ≡ false) × (meet (placed_at numbers i) (placed_at numbers j) ≡ true))
  unfolding meeting
  lengths i j t =
      let first = not (no_length (edge_from numbers i)) in
      let second = not (no_length (edge_from numbers j)) in
      let ts = both (first && second) (meet (placed_at numbers i) (placed_at numbers j)) t in
      let ls = both first second ts.0 in
      (not-true (no_length (edge_from numbers i)) ls.0, (not-true (no_length (edge_from numbers j)) ls.1, ts.1))

  -- What is asked of two edges that have a length
  pub meeting_so : (i j : ℕ) → no_length (edge_from numbers i) ≡ false → no_length (edge_from numbers j) ≡ false
      → meet (placed_at numbers i) (placed_at numbers j) ≡ meeting numbers i j
  unfolding meeting
  meeting_so i j e k = sym (ap₂ (λ (a b : Bool). not a && not b && meet (placed_at numbers i) (placed_at numbers j)) e k)

  -- An edge of no length meets none
  pub meeting_first : (i j : ℕ) → no_length (edge_from numbers i) ≡ true → false ≡ meeting numbers i j
  unfolding meeting
  meeting_first i j e =
      sym (ap (λ (b : Bool). not b && not (no_length (edge_from numbers j)) && meet (placed_at numbers i) (placed_at numbers j)) e)

  pub meeting_second : (i j : ℕ) → no_length (edge_from numbers j) ≡ true → false ≡ meeting numbers i j
  unfolding meeting
  meeting_second i j e =
      sym (fails_left (meet (placed_at numbers i) (placed_at numbers j)) (fails_right (not (no_length (edge_from numbers i))) (ap not e)))

  -- No edge from a place to another meets one
  abbrev pub Passed : ℕ → ℕ → ℕ → Type 0
  Passed i j k = (y : ℕ) → j ≤ y → y < k → meeting numbers i y ≡ false

  -- so the first that meets it is none of these
  pass : (i : ℕ) → no_length (edge_from numbers i) ≡ false → (n j k : ℕ) → j + n ≡ k → k ≤ length numbers / 2 → Passed i j k
      → first_later (placed_at numbers i) (from j) ≡ first_later (placed_at numbers i) (from k)
  pass i e zero j k sum most h = ap (λ (x : ℕ). first_later (placed_at numbers i) (from x)) (omega arith)
  pass i e (suc n) j k sum most h =
      at (no_length (edge_from numbers j)) refl ∙ pass i e n (j + 1) k (omega arith) most (λ y l m. h y (omega arith) m)
    where
      less : j < length numbers / 2
      less = omega arith

      at : (b : Bool) → no_length (edge_from numbers j) ≡ b
          → first_later (placed_at numbers i) (from j) ≡ first_later (placed_at numbers i) (from (j + 1))
      at true l = ap (first_later (placed_at numbers i)) (from_skip j less l)
      at false l =
          ap (first_later (placed_at numbers i)) (from_first j less l)
          ∙ ap (λ (b : Bool). cond b (Some (i, j)) (first_later (placed_at numbers i) (from (j + 1)))) (meeting_so i j e l ∙ h j (omega arith) (omega arith))

  -- No edge before a place meets a later one
  abbrev pub Tried : ℕ → Type 0
  Tried i = (x : ℕ) → x < i → Passed x (x + 1) (length numbers / 2)

  -- so the first pair is none of theirs
  try : (n i : ℕ) → n + i ≤ length numbers / 2 → Tried (n + i) → first_pair (from i) ≡ first_pair (from (n + i))
  try zero i most h = ap (λ (x : ℕ). first_pair (from x)) (omega arith)
  try (suc n) i most h = at (no_length (edge_from numbers i)) refl ∙ try n (i + 1) (omega arith) (λ x l. h x (omega arith)) ∙ same
    where
      same : first_pair (from (n + (i + 1))) ≡ first_pair (from (suc n + i))
      same = ap (λ (x : ℕ). first_pair (from x)) (omega arith)

      less : i < length numbers / 2
      less = omega arith

      none : no_length (edge_from numbers i) ≡ false → first_later (placed_at numbers i) (from (i + 1)) ≡ None
      none e =
          pass i e (length numbers / 2 - (i + 1)) (i + 1) (length numbers / 2) (omega arith) (omega arith) (h i (omega arith))
          ∙ ap (first_later (placed_at numbers i)) (from_none (length numbers / 2) (omega arith))

      at : (b : Bool) → no_length (edge_from numbers i) ≡ b → first_pair (from i) ≡ first_pair (from (i + 1))
      at true e = ap first_pair (from_skip i less e)
      at false e = ap first_pair (from_first i less e) ∙ ap (λ (m : Option (ℕ × ℕ)). or_else m (first_pair (from (i + 1)))) (none e)

  tried : (i : ℕ) → i ≤ length numbers / 2 → Tried i → pair_of (corners_of numbers) ≡ first_pair (from i)
  unfolding pair_of
  tried i most h =
      let same : i + 0 ≡ i = omega arith in
      ap first_pair from_all ∙ try i 0 (omega arith) (λ x l. h x (omega arith)) ∙ ap (λ (x : ℕ). first_pair (from x)) same

  -- Where all are tried, there is no pair
  pub nowhere : Tried (length numbers / 2) → None ≡ pair_of (corners_of numbers)
  nowhere h = sym (tried (length numbers / 2) (omega arith) h ∙ ap first_pair (from_none (length numbers / 2) (omega arith)))

  -- and two that meet, the edges before the first tried and those between them passed, are the first pair
  pub pair_found : (i j : ℕ) → i < j → j < length numbers / 2 → Tried i → Passed i (i + 1) j → meeting numbers i j ≡ true
      → Some (i, j) ≡ pair_of (corners_of numbers)
  pair_found i j h k before between t =
      let ls = lengths i j t in
      let later : first_later (placed_at numbers i) (from (i + 1)) ≡ Some (i, j) =
      pass i ls.0 (j - (i + 1)) (i + 1) j (omega arith) (omega arith) between
      ∙ ap (first_later (placed_at numbers i)) (from_first j k ls.1.0)
      ∙ ap (λ (b : Bool). cond b (Some (i, j)) (first_later (placed_at numbers i) (from (j + 1)))) ls.1.1 in
      sym
      (tried i (omega arith) before
      ∙ ap first_pair (from_first i (omega arith) ls.0)
      ∙ ap (λ (m : Option (ℕ × ℕ)). or_else m (first_pair (from (i + 1)))) later)

  -- Edges whose extents are apart do not meet
  pub apart_meeting : (i j : ℕ) → overlapping (edge_from numbers i) (edge_from numbers j) ≡ false → meeting numbers i j ≡ false
  unfolding meeting meet
  apart_meeting i j t =
      let e = edge_from numbers i in
      let f = edge_from numbers j in
      fails_right (not (no_length e) && not (no_length f))
      (either_case (eqb j (following numbers i)) (apart_more e f t)
      (either_case (eqb i (following numbers j)) (apart_more f e (overlapping_comm f e ∙ t)) (apart_share e f t)))
    where
      either_case : (b : Bool) {c d : Bool} → c ≡ false → d ≡ false → cond b c d ≡ false
      either_case true h k = h
      either_case false h k = k

  -- nor do the edge from a place and that from the next where these share no more than their corner
  pub next_meeting : (i : ℕ) → i + 1 < length numbers / 2 → share_more (edge_from numbers i) (edge_from numbers (i + 1)) ≡ false
      → meeting numbers i (i + 1) ≡ false
  unfolding meeting meet
  next_meeting i less t = at (no_length f) refl
    where
      e : Edge
      e = edge_from numbers i

      f : Edge
      f = edge_from numbers (i + 1)

      at : (b : Bool) → no_length f ≡ b → meeting numbers i (i + 1) ≡ false
      at true l = sym (meeting_second i (i + 1) l)
      at false l =
          fails_right (not (no_length e) && not (no_length f))
          (meet_next (placed_at numbers i) (placed_at numbers (i + 1)) (sym (start_here (i + 1) (start_from numbers 0 0) less l)) ∙ t)
