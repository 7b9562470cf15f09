-- The laws of edges that are listed in a lent room: how a loop takes them one by one, what putting one leaves, and the walk that lists the
-- edges of a boundary. Assumes nothing.
use Prim.Native.Nat.{ℕ, zero, suc, ◌+◌, ◌-◌, ◌*◌, ◌/◌, ◌≤◌, ◌<◌}
use Rattle.std.proofs.Common.{add-one, ap₂, ◌∙◌, sym, subst, length-set, length-append, length-take-le, take_at, drop_at, drop-drop, drop-cons, get_or-take, get_or-append-add, lt-ltb, eq-eqb, ne_eqb, le-leb, leb-true}
use native.Mathlib.Omega.{arith}
use Rattle.std.specs.Prelude.{◌≡◌, Bool, true, false, cond, not, ◌&&◌, leb, ltb, get_or, take, set}
use Rattle.std.proofs.Math.Path.{refl, ap}
use Rattle.std.specs.Bool.{beq}
use mathlib.Core.List.{List, [], ◌∷◌, ◌++◌, map, append-nil, append_assoc}
use Rattle.std.proofs.Math.ListN.{length, drop, drop_of_length-le}
use Rattle.std.proofs.lemmas.List.Edits.{sets, sets-eq}
use Rattle.std.proofs.Math.Seq.{length-sets}
use Rattle.std.proofs.lemmas.List.{set_at}
use Rattle.std.proofs.lemmas.Bool.{not-true, not-false}
use Rattle.facts.specs.Tests.{both, differ, differ_comm, unlike}
use Rattle.facts.specs.Lists.{count_up}
use Rattle.ground.specs.declared.Point.{Point}
use Rattle.ground.specs.declared.Rectangle.{Rectangle}
use Rattle.ground.specs.Levels.{lat, lon}
use Rattle.ground.specs.Rectangles.{at}
use Rattle.corners.specs.Corners.{corners_of, corner_at, corners_length, corners_from}
use Rattle.edge.specs.Edge.{Edge, edge, no_length, misses, crosses_east}
use Rattle.boundary.specs.Boundary.{joined, with_length, edges_of, places_from, places_of, point_inside, unmet}
use Rattle.boundary.specs.Sums.{differ_sums}
use Rattle.boundary.specs.Closed.{oddly, inside_odd}
use Rattle.boundary.specs.Listed.{edges_in, edge_in, numbers_of, with_edge, place_after, edge_from, boundary_of, have_room, listed_count, listed_edges, listed_places}

-- There is an edge for each four numbers
pub edges_length : (room : List ℕ) → length (edges_in room) ≡ length room / 4
unfolding edges_in
edges_length [] = refl
edges_length (a ∷ []) = refl
edges_length (a ∷ b ∷ []) = refl
edges_length (a ∷ b ∷ c ∷ []) = refl
edges_length (a ∷ b ∷ c ∷ d ∷ rest) = ap suc (edges_length rest) ∙ omega arith

-- The first of the edges from a place on is the one at that place
pub edges_from : (room : List ℕ) (i : ℕ) → i < length room / 4 → drop i (edges_in room) ≡ edge_in room i ∷ drop (suc i) (edges_in room)
unfolding edges_in
edges_from [] i h = let none : ⊥ = omega arith in absurd none
edges_from (a ∷ []) i h = let none : ⊥ = omega arith in absurd none
edges_from (a ∷ b ∷ []) i h = let none : ⊥ = omega arith in absurd none
edges_from (a ∷ b ∷ c ∷ []) i h = let none : ⊥ = omega arith in absurd none
edges_from (a ∷ b ∷ c ∷ d ∷ rest) zero h = refl
edges_from (a ∷ b ∷ c ∷ d ∷ rest) (suc i) h =
    edges_from rest i (omega arith)
    ∙ ap₂ (λ (p q : Point). edge p q ∷ drop (suc i) (edges_in rest)) (corner (2 * suc i) (2 * i) (omega arith))
    (corner (2 * suc i + 1) (2 * i + 1) (omega arith))
  where
    later : (m n : ℕ) → m ≡ suc (suc (suc (suc n))) → get_or rest n 0 ≡ get_or (a ∷ b ∷ c ∷ d ∷ rest) m 0
    later m n e = sym (ap (λ (k : ℕ). get_or (a ∷ b ∷ c ∷ d ∷ rest) k 0) e)

    corner : (m n : ℕ) → m ≡ suc (suc n) → corner_at rest n ≡ corner_at (a ∷ b ∷ c ∷ d ∷ rest) m
    corner m n e =
        ap₂ (λ (y x : ℕ). at (lat y) (lon x)) (later (2 * m) (2 * n) (omega arith)) (later (2 * m + 1) (2 * n + 1) (omega arith))

-- Edges that are written down are read back
pub edges_numbers : (es : List Edge) → edges_in (numbers_of es) ≡ es
unfolding edges_in
edges_numbers [] = refl
edges_numbers (e ∷ es) = ap (λ (ds : List Edge). e ∷ ds) (edges_numbers es)

pub numbers_length : (es : List Edge) → length (numbers_of es) ≡ 4 * length es
numbers_length [] = refl
numbers_length (e ∷ es) = let t = numbers_length es in omega arith

numbers_append : (es ds : List Edge) → numbers_of (es ++ ds) ≡ numbers_of es ++ numbers_of ds
numbers_append [] ds = refl
numbers_append (e ∷ es) ds =
    ap (λ (ns : List ℕ). e.start.lat.0 ∷ e.start.lon.0 ∷ e.end.lat.0 ∷ e.end.lon.0 ∷ ns) (numbers_append es ds)

-- A loop over the edges of a list has found that none before place i meets a rectangle
pub record UnmetFrom (edges : List ℕ) (r : Rectangle) (i : ℕ) : Type 0 where
  pub rest : unmet r (edges_in edges) ≡ unmet r (drop i (edges_in edges))

module _ {edges : List ℕ} {r : Rectangle} where
  pub unmet_begin : UnmetFrom edges r 0
  unmet_begin = record { rest = refl }

  module _ {i : ℕ} (u : UnmetFrom edges r i) where
    unmet_next : (b : Bool) → i < length edges / 4 → b ≡ misses (edge_in edges i) r
        → unmet r (edges_in edges) ≡ (b && unmet r (drop (suc i) (edges_in edges)))
    unmet_next b h t =
        u.rest ∙ ap (unmet r) (edges_from edges i h) ∙ ap (λ (c : Bool). c && unmet r (drop (suc i) (edges_in edges))) (sym t)

    -- An edge that meets it decides
    pub unmet_met : {m : Bool} → i < length edges / 4 → m ≡ misses (edge_in edges i) r → not m ≡ true → false ≡ unmet r (edges_in edges)
    unmet_met {m} h t n = sym (unmet_next false h (sym (not-true m n) ∙ t))

    -- one that misses it leaves it to the others
    pub unmet_again : {m : Bool} → i < length edges / 4 → m ≡ misses (edge_in edges i) r → not m ≡ false → UnmetFrom edges r (i + 1)
    unmet_again {m} h t n =
        record { rest = unmet_next true h (sym (not-false m n) ∙ t) ∙ ap (λ (k : ℕ). unmet r (drop k (edges_in edges))) (sym (add-one i)) }

    -- and where none is left, none meets it
    pub unmet_end : length edges / 4 ≤ i → true ≡ unmet r (edges_in edges)
    unmet_end h = sym (u.rest ∙ ap (unmet r) (drop_of_length-le (edges_in edges) {i = i} (omega (arith, edges_length edges))))

-- A loop over the edges of a list has counted those before place i
pub record OddFrom (edges : List ℕ) (p : Point) (odd : Bool) (i : ℕ) : Type 0 where
  pub rest : point_inside p (edges_in edges) ≡ differ odd (oddly (crosses_east p) (drop i (edges_in edges)))

module _ {edges : List ℕ} {p : Point} where
  pub odd_begin : OddFrom edges p false 0
  odd_begin = record { rest = inside_odd p (edges_in edges) }

  module _ {odd : Bool} {i : ℕ} (o : OddFrom edges p odd i) where
    -- One edge more
    pub odd_again : {b : Bool} → i < length edges / 4 → b ≡ crosses_east p (edge_in edges i) → OddFrom edges p (not (beq odd b)) (i + 1)
    odd_again {b} h t =
        let f = crosses_east p in
        let rest = oddly f (drop (suc i) (edges_in edges)) in
        record {
          rest =
              o.rest ∙ ap (λ (es : List Edge). differ odd (oddly f es)) (edges_from edges i h)
              ∙ sym (differ_sums.assoc odd (f (edge_in edges i)) rest)
              ∙ ap (λ (x : Bool). differ x rest) (ap (differ odd) (sym t) ∙ sym (unlike odd b))
              ∙ ap (λ (k : ℕ). differ (not (beq odd b)) (oddly f (drop k (edges_in edges)))) (sym (add-one i));
        }

    -- and where none is left, the count is told
    pub odd_end : length edges / 4 ≤ i → odd ≡ point_inside p (edges_in edges)
    odd_end h =
        sym
        (o.rest
        ∙ ap (λ (es : List Edge). differ odd (oddly (crosses_east p) es)) (drop_of_length-le (edges_in edges) {i = i} (omega (arith, edges_length edges)))
        ∙ differ_comm odd false)

-- Four numbers put one after the other
pub put_four : (room : List ℕ) (i a b c d : ℕ) → set (set (set (set room (4 * i) a) (4 * i + 1) b) (4 * i + 2) c) (4 * i + 3) d
    ≡ sets room (4 * i) (a ∷ b ∷ c ∷ d ∷ [])
put_four room i a b c d =
    let one : 4 * i + 1 ≡ suc (4 * i) = omega arith in
    let two : 4 * i + 2 ≡ suc (suc (4 * i)) = omega arith in
    let three : 4 * i + 3 ≡ suc (suc (suc (4 * i))) = omega arith in
    ap (λ (n : ℕ). set (set (set (set room (4 * i) a) n b) (4 * i + 2) c) (4 * i + 3) d) one
    ∙ ap (λ (n : ℕ). set (set (set (set room (4 * i) a) (suc (4 * i)) b) n c) (4 * i + 3) d) two
    ∙ ap (λ (n : ℕ). set (set (set (set room (4 * i) a) (suc (4 * i)) b) (suc (suc (4 * i))) c) n d) three

module _ (room : List ℕ) (i : ℕ) (e : Edge) where
  -- Putting an edge leaves the room's length
  pub with_length_lem : length (with_edge room i e) ≡ length room
  with_length_lem = by (ltb i (length room / 4))
    where
      by : (b : Bool) → length (cond b (sets room (4 * i) (numbers_of (e ∷ []))) room) ≡ length room
      by true = length-sets room (4 * i) (numbers_of (e ∷ []))
      by false = refl

  module _ (fits : i < length room / 4) where
    -- It stands between what stands before it and behind it
    pub with_between : with_edge room i e ≡ take (4 * i) room ++ numbers_of (e ∷ []) ++ drop (4 * i + 4) room
    with_between =
        ap (λ (b : Bool). cond b (sets room (4 * i) (numbers_of (e ∷ []))) room) (lt-ltb i (length room / 4) fits)
        ∙ sets-eq (numbers_of (e ∷ [])) room (4 * i) (omega arith)

    before_length : length (take (4 * i) room) ≡ 4 * i
    before_length = length-take-le (4 * i) room (omega arith)

    -- The number at a place of the room with the edge put there: before it, of it
    number_before : (k : ℕ) → k < 4 * i → get_or (with_edge room i e) k 0 ≡ get_or room k 0
    number_before k h =
        ap (λ (ns : List ℕ). get_or ns k 0) (with_between ∙ append_assoc (take (4 * i) room) (numbers_of (e ∷ [])) (drop (4 * i + 4) room))
        ∙ sym (get_or-take (4 * i) (take (4 * i) room ++ (numbers_of (e ∷ []) ++ drop (4 * i + 4) room)) k 0 h)
        ∙ ap (λ (ns : List ℕ). get_or ns k 0) (take_at (take (4 * i) room) (numbers_of (e ∷ []) ++ drop (4 * i + 4) room) (4 * i) before_length)
        ∙ get_or-take (4 * i) room k 0 h

    number_there : (k j : ℕ) → k ≡ 4 * i + j → get_or (with_edge room i e) k 0 ≡ get_or (numbers_of (e ∷ []) ++ drop (4 * i + 4) room) j 0
    number_there k j h =
        ap₂ (λ (ns : List ℕ) (n : ℕ). get_or ns n 0)
        (with_between ∙ append_assoc (take (4 * i) room) (numbers_of (e ∷ [])) (drop (4 * i + 4) room)) h
        ∙ ap (λ (n : ℕ). get_or (take (4 * i) room ++ (numbers_of (e ∷ []) ++ drop (4 * i + 4) room)) (n + j) 0) (sym before_length)
        ∙ get_or-append-add (take (4 * i) room) (numbers_of (e ∷ []) ++ drop (4 * i + 4) room) j 0

    -- There the edge stands
    pub edge_there : edge_in (with_edge room i e) i ≡ e
    edge_there =
        ap₂ edge
        (ap₂ (λ (y x : ℕ). at (lat y) (lon x)) (number_there (2 * (2 * i)) 0 (omega arith)) (number_there (2 * (2 * i) + 1) 1 (omega arith)))
        (ap₂ (λ (y x : ℕ). at (lat y) (lon x)) (number_there (2 * (2 * i + 1)) 2 (omega arith)) (number_there (2 * (2 * i + 1) + 1) 3 (omega arith)))

    -- and the edges before it stay
    pub edge_before : (j : ℕ) → j < i → edge_in (with_edge room i e) j ≡ edge_in room j
    edge_before j h =
        ap₂ edge
        (ap₂ (λ (y x : ℕ). at (lat y) (lon x)) (number_before (2 * (2 * j)) (omega arith)) (number_before (2 * (2 * j) + 1) (omega arith)))
        (ap₂ (λ (y x : ℕ). at (lat y) (lon x)) (number_before (2 * (2 * j + 1)) (omega arith))
        (number_before (2 * (2 * j + 1) + 1) (omega arith)))

-- The edges from a place of the caller's numbers on
abbrev pub edges_after : List ℕ → ℕ → List Edge
edges_after numbers i = map (edge_from numbers) (count_up (length numbers / 2 - i) i)

-- The first of them is the one from that place
pub edges_after_lem : (numbers : List ℕ) (i : ℕ) → i < length numbers / 2 → edges_after numbers i ≡ edge_from numbers i ∷ edges_after numbers (i + 1)
edges_after_lem numbers i less =
    let more : length numbers / 2 - i ≡ suc (length numbers / 2 - (i + 1)) = omega arith in
    ap (λ (n : ℕ). map (edge_from numbers) (count_up n i)) more
    ∙ ap (λ (k : ℕ). edge_from numbers i ∷ map (edge_from numbers) (count_up (length numbers / 2 - (i + 1)) k)) (sym (add-one i))

-- and past the last place there are none
pub edges_over : (numbers : List ℕ) (i : ℕ) → length numbers / 2 ≤ i → edges_after numbers i ≡ []
edges_over numbers i over =
    let none : length numbers / 2 - i ≡ 0 = omega arith in
    ap (λ (n : ℕ). map (edge_from numbers) (count_up n i)) none

module _ (numbers : List ℕ) where
  edge_to : (i j : ℕ) → place_after (length numbers / 2) i ≡ j → edge (corner_at numbers i) (corner_at numbers j) ≡ edge_from numbers i
  edge_to i j e = ap (λ (k : ℕ). edge (corner_at numbers i) (corner_at numbers k)) (sym e)

  -- From a place on, the corners are joined by the edges from the places
  joined_places : (k i : ℕ) → suc (i + k) ≡ length numbers / 2
      → joined (corner_at numbers 0) (corner_at numbers i) (drop (suc i) (corners_of numbers)) ≡ map (edge_from numbers) (count_up (suc k) i)
  joined_places zero i e =
      let over : length (corners_of numbers) ≤ suc i = omega (arith, corners_length numbers) in
      let last : place_after (length numbers / 2) i ≡ 0 =
      ap (λ (b : Bool). cond b 0 (i + 1)) (eq-eqb (i + 1) (length numbers / 2) (omega arith)) in
      ap (joined (corner_at numbers 0) (corner_at numbers i)) (drop_of_length-le (corners_of numbers) over)
      ∙ ap (λ (e : Edge). e ∷ []) (edge_to i 0 last)
  joined_places (suc k) i e =
      let more : place_after (length numbers / 2) i ≡ suc i =
      ap (λ (b : Bool). cond b 0 (i + 1)) (ne_eqb (i + 1) (length numbers / 2) (λ h. omega arith)) ∙ add-one i in
      ap (joined (corner_at numbers 0) (corner_at numbers i)) (corners_from numbers (suc i) (omega arith))
      ∙ ap₂ (λ (e : Edge) (es : List Edge). e ∷ es) (edge_to i (suc i) more) (joined_places k (suc i) (omega arith))

  -- So the boundary's edges are those from all places that have a length, and these are the places
  pub all_places : (boundary_of numbers ≡ with_length (edges_after numbers 0)) × (places_of (corners_of numbers) ≡ places_from 0 (edges_after numbers 0))
  unfolding edges_of places_of
  all_places = by (length numbers / 2) refl
    where
      by : (n : ℕ) → length numbers / 2 ≡ n
          → (boundary_of numbers ≡ with_length (map (edge_from numbers) (count_up (n - 0) 0)))
          × (places_of (corners_of numbers) ≡ places_from 0 (map (edge_from numbers) (count_up (n - 0) 0)))
      by zero e =
          let none : corners_of numbers ≡ [] = drop_of_length-le (corners_of numbers) {i = 0} (omega (arith, corners_length numbers)) in
          (ap edges_of none, ap places_of none)
      by (suc k) e =
          let first : corners_of numbers ≡ corner_at numbers 0 ∷ drop 1 (corners_of numbers) = corners_from numbers 0 (omega arith) in
          let all = joined_places k 0 (omega arith) in
          let same : suc k - 0 ≡ suc k = omega arith in (
            ap edges_of first ∙ ap with_length all ∙ ap (λ (n : ℕ). with_length (map (edge_from numbers) (count_up n 0))) (sym same),
            ap places_of first ∙ ap (places_from 0) all ∙ ap (λ (n : ℕ). places_from 0 (map (edge_from numbers) (count_up n 0))) (sym same),
          )

-- The walk has listed the edges from the places before i: so many, as they are found, and the places where they start
pub record Listing (numbers lent_edges lent_places edges places : List ℕ) (i listed : ℕ) : Type 0 where
  pub found : List Edge
  pub starts : List ℕ
  pub edges_all : boundary_of numbers ≡ found ++ with_length (edges_after numbers i)
  pub places_all : places_of (corners_of numbers) ≡ starts ++ places_from i (edges_after numbers i)
  pub many : length found ≡ listed
  pub same : length starts ≡ listed
  pub few : listed ≤ i
  pub edges_long : length edges ≡ length lent_edges
  pub places_long : length places ≡ length lent_places
  pub edges_now : edges ≡ numbers_of found ++ drop (4 * listed) lent_edges
  pub places_now : places ≡ starts ++ drop listed lent_places

-- At first nothing is listed
pub listing_begin : (numbers edges places : List ℕ) → Listing numbers edges places edges places 0 0
listing_begin numbers edges places =
    let all = all_places numbers in
    record {
      found = [];
      starts = [];
      edges_all = all.0;
      places_all = all.1;
      many = refl;
      same = refl;
      few = omega arith;
      edges_long = refl;
      places_long = refl;
      edges_now = refl;
      places_now = refl;
    }

module _ {numbers lent_edges lent_places edges places : List ℕ} {i listed : ℕ} (l : Listing numbers lent_edges lent_places edges places i listed)
    (less : i < length numbers / 2) (fits : length numbers / 2 ≤ length lent_edges / 4) (holds : length numbers / 2 ≤ length lent_places) where
  -- An edge of no length is left out
  listing_skip : no_length (edge_from numbers i) ≡ true → Listing numbers lent_edges lent_places edges places (i + 1) listed
  listing_skip e =
      let rest = edges_after numbers (i + 1) in
      record {
        found = l.found;
        starts = l.starts;
        edges_all = l.edges_all
            ∙ ap (λ (es : List Edge). l.found ++ with_length es) (edges_after_lem numbers i less)
            ∙ ap (λ (b : Bool). l.found ++ cond b (with_length rest) (edge_from numbers i ∷ with_length rest)) e;
        places_all = l.places_all
            ∙ ap (λ (es : List Edge). l.starts ++ places_from i es) (edges_after_lem numbers i less)
            ∙ ap (λ (b : Bool). l.starts ++ cond b (places_from (suc i) rest) (i ∷ places_from (suc i) rest)) e
            ∙ ap (λ (k : ℕ). l.starts ++ places_from k rest) (sym (add-one i));
        many = l.many;
        same = l.same;
        few = omega (arith, l.few);
        edges_long = l.edges_long;
        places_long = l.places_long;
        edges_now = l.edges_now;
        places_now = l.places_now;
      }

  -- and any other is put behind the others
  listing_put : no_length (edge_from numbers i) ≡ false
      → Listing numbers lent_edges lent_places (with_edge edges listed (edge_from numbers i)) (set places listed i) (i + 1) (listed + 1)
  listing_put e =
      let rest = edges_after numbers (i + 1) in
      record {
        found = l.found ++ (edge_from numbers i ∷ []);
        starts = l.starts ++ (i ∷ []);
        edges_all = l.edges_all
            ∙ ap (λ (es : List Edge). l.found ++ with_length es) (edges_after_lem numbers i less)
            ∙ ap (λ (b : Bool). l.found ++ cond b (with_length rest) (edge_from numbers i ∷ with_length rest)) e
            ∙ sym (append_assoc l.found (edge_from numbers i ∷ []) (with_length rest));
        places_all = l.places_all
            ∙ ap (λ (es : List Edge). l.starts ++ places_from i es) (edges_after_lem numbers i less)
            ∙ ap (λ (b : Bool). l.starts ++ cond b (places_from (suc i) rest) (i ∷ places_from (suc i) rest)) e
            ∙ ap (λ (k : ℕ). l.starts ++ (i ∷ places_from k rest)) (sym (add-one i))
            ∙ sym (append_assoc l.starts (i ∷ []) (places_from (i + 1) rest));
        many = length-append l.found (edge_from numbers i ∷ []) ∙ omega (arith, l.many);
        same = length-append l.starts (i ∷ []) ∙ omega (arith, l.same);
        few = omega (arith, l.few);
        edges_long = with_length_lem edges listed (edge_from numbers i) ∙ l.edges_long;
        places_long = length-set places listed i ∙ l.places_long;
        edges_now = with_between edges listed (edge_from numbers i) (omega (arith, l.edges_long, l.few))
            ∙ ap₂ (λ (xs ys : List ℕ). xs ++ numbers_of (edge_from numbers i ∷ []) ++ ys) front back
            ∙ ap (λ (ns : List ℕ). ns ++ drop (4 * (listed + 1)) lent_edges) (sym (numbers_append l.found (edge_from numbers i ∷ [])));
        places_now = ap (λ (ps : List ℕ). set ps listed i) (l.places_now ∙ ap (λ (ps : List ℕ). l.starts ++ ps) one)
            ∙ set_at l.starts (get_or lent_places listed 0) (drop (listed + 1) lent_places) i listed l.same
            ∙ sym (append_assoc l.starts (i ∷ []) (drop (listed + 1) lent_places));
      }
    where
      long : length (numbers_of l.found) ≡ 4 * listed
      long = numbers_length l.found ∙ ap (λ (n : ℕ). 4 * n) l.many

      front : take (4 * listed) edges ≡ numbers_of l.found
      front = ap (take (4 * listed)) l.edges_now ∙ take_at (numbers_of l.found) (drop (4 * listed) lent_edges) (4 * listed) long

      back : drop (4 * listed + 4) edges ≡ drop (4 * (listed + 1)) lent_edges
      back =
          let four : 4 * listed + 4 ≡ 4 * (listed + 1) = omega arith in
          ap (drop (4 * listed + 4)) l.edges_now
          ∙ sym (drop-drop 4 (4 * listed) (numbers_of l.found ++ drop (4 * listed) lent_edges))
          ∙ ap (drop 4) (drop_at (numbers_of l.found) (drop (4 * listed) lent_edges) (4 * listed) long)
          ∙ drop-drop 4 (4 * listed) lent_edges
          ∙ ap (λ (n : ℕ). drop n lent_edges) four

      one : drop listed lent_places ≡ get_or lent_places listed 0 ∷ drop (listed + 1) lent_places
      one =
          drop-cons lent_places listed 0 (omega (arith, l.few))
          ∙ ap (λ (n : ℕ). get_or lent_places listed 0 ∷ drop n lent_places) (sym (add-one listed))

  -- One place more
  pub listing_again : (b : Bool) → no_length (edge_from numbers i) ≡ b
      → Listing numbers lent_edges lent_places (cond b edges (with_edge edges listed (edge_from numbers i))) (cond b places (set places listed i)) (i + 1)
      (cond b listed (listed + 1))
  listing_again true e = listing_skip e
  listing_again false e = listing_put e

module _ {numbers lent_edges lent_places edges places : List ℕ} {i listed : ℕ} (l : Listing numbers lent_edges lent_places edges places i listed) where
  -- with the rooms and the number by other names
  pub listing_as : {edges' places' : List ℕ} {listed' : ℕ} → edges' ≡ edges → places' ≡ places → listed' ≡ listed
      → Listing numbers lent_edges lent_places edges' places' i listed'
  listing_as {edges'} {places'} {listed'} a b c =
      subst (λ (es : List ℕ). Listing numbers lent_edges lent_places es places' i listed') (sym a)
      (subst (λ (ps : List ℕ). Listing numbers lent_edges lent_places edges ps i listed') (sym b)
      (subst (λ (n : ℕ). Listing numbers lent_edges lent_places edges places i n) (sym c) l))

  module _ (past : length numbers / 2 ≤ i) where
    none_left : edges_after numbers i ≡ []
    none_left = let none : length numbers / 2 - i ≡ 0 = omega arith in ap (λ (n : ℕ). map (edge_from numbers) (count_up n i)) none

    all_found : boundary_of numbers ≡ l.found
    all_found = l.edges_all ∙ ap (λ (es : List Edge). l.found ++ with_length es) none_left ∙ append-nil l.found

    all_started : places_of (corners_of numbers) ≡ l.starts
    all_started = l.places_all ∙ ap (λ (es : List Edge). l.starts ++ places_from i es) none_left ∙ append-nil l.starts

    listed_all : listed ≡ length (boundary_of numbers)
    listed_all = sym (ap length all_found ∙ l.many)

    module _ (room : have_room numbers lent_edges lent_places ≡ true) where
      -- At the end all are listed
      pub listing_count : listed ≡ listed_count numbers lent_edges lent_places
      listing_count = listed_all ∙ sym (ap (λ (b : Bool). cond b (length (boundary_of numbers)) 0) room)

      pub listing_edges : edges ≡ listed_edges numbers lent_edges lent_places
      listing_edges =
          l.edges_now
          ∙ ap₂ (λ (es : List Edge) (n : ℕ). numbers_of es ++ drop (4 * n) lent_edges) (sym all_found) listed_all
          ∙ sym (ap (λ (b : Bool). cond b (numbers_of (boundary_of numbers) ++ drop (4 * length (boundary_of numbers)) lent_edges) lent_edges) room)

      pub listing_places : places ≡ listed_places numbers lent_edges lent_places
      listing_places =
          l.places_now
          ∙ ap₂ (λ (ps : List ℕ) (n : ℕ). ps ++ drop n lent_places) (sym all_started) listed_all
          ∙ sym (ap (λ (b : Bool). cond b (places_of (corners_of numbers) ++ drop (length (boundary_of numbers)) lent_places) lent_places) room)

-- Rooms that are long enough have room
pub have_room_lem : (numbers edges places : List ℕ) → length numbers / 2 ≤ length edges / 4 → length numbers / 2 ≤ length places
    → have_room numbers edges places ≡ true
have_room_lem numbers edges places h k =
    ap₂ ◌&&◌ (le-leb (length numbers / 2) (length edges / 4) h) (le-leb (length numbers / 2) (length places) k)

-- Where one of them is too short, nothing is listed
pub no_room : (numbers edges places : List ℕ) → have_room numbers edges places ≡ false
    → (0 ≡ listed_count numbers edges places) × ((edges ≡ listed_edges numbers edges places) × (places ≡ listed_places numbers edges places))
no_room numbers edges places e =
    let es = boundary_of numbers in (
      sym (ap (λ (b : Bool). cond b (length es) 0) e),
      (
        sym (ap (λ (b : Bool). cond b (numbers_of es ++ drop (4 * length es) edges) edges) e),
        sym (ap (λ (b : Bool). cond b (places_of (corners_of numbers) ++ drop (length es) places) places) e),
      ),
    )

-- There are no more edges than corners
pub boundary_few : (numbers : List ℕ) → length (boundary_of numbers) ≤ length numbers / 2
boundary_few numbers =
    let all = (all_places numbers).0 in
    let most = with_most (length numbers / 2 - 0) 0 in
    omega (arith, ap length all)
  where
    with_most : (n i : ℕ) → length (with_length (map (edge_from numbers) (count_up n i))) ≤ n
    with_most zero i = omega arith
    with_most (suc n) i = by (no_length (edge_from numbers i)) (with_most n (suc i))
      where
        by : (b : Bool) → length (with_length (map (edge_from numbers) (count_up n (suc i)))) ≤ n
            → length (cond b (with_length (map (edge_from numbers) (count_up n (suc i)))) (edge_from numbers i ∷ with_length (map (edge_from numbers) (count_up n (suc i))))) ≤ suc n
        by true h = omega arith
        by false h = omega arith

-- and so no more are listed
pub listed_count_lem : (numbers edges places : List ℕ) → listed_count numbers edges places ≤ length (boundary_of numbers)
listed_count_lem numbers edges places = by (have_room numbers edges places)
  where
    by : (b : Bool) → cond b (length (boundary_of numbers)) 0 ≤ length (boundary_of numbers)
    by true = omega arith
    by false = omega arith

-- What is listed fits in the room
pub listed_fits : (numbers edges places : List ℕ) → 4 * listed_count numbers edges places ≤ length edges
listed_fits numbers edges places = at (have_room numbers edges places) refl
  where
    at : (b : Bool) → have_room numbers edges places ≡ b → 4 * cond b (length (boundary_of numbers)) 0 ≤ length edges
    at true e =
        let first = (both (leb (length numbers / 2) (length edges / 4)) (leb (length numbers / 2) (length places)) e).0 in
        omega (arith, boundary_few numbers, leb-true (length numbers / 2) (length edges / 4) first)
    at false e = omega arith

-- The edges that listing puts at the start of a room are the boundary's
pub listed_boundary : (numbers edges places : List ℕ) → have_room numbers edges places ≡ true
    → edges_in (take (4 * listed_count numbers edges places) (listed_edges numbers edges places)) ≡ boundary_of numbers
listed_boundary numbers edges places room =
    let es = boundary_of numbers in
    ap₂ (λ (n : ℕ) (ns : List ℕ). edges_in (take (4 * n) ns)) (ap (λ (b : Bool). cond b (length es) 0) room)
    (ap (λ (b : Bool). cond b (numbers_of es ++ drop (4 * length es) edges) edges) room)
    ∙ ap edges_in (take_at (numbers_of es) (drop (4 * length es) edges) (4 * length es) (numbers_length es))
    ∙ edges_numbers es
