-- The computation of the chosen cell gives what document 01 says of it ("The cell inside"): there is at most one chosen cell, the sides
-- that are tried are all low sides over the extent in turn, and what is found first is chosen. Assumes nothing.
use Rattle.std.specs.Prelude.{ℕ, zero, suc, ◌+◌, ◌-◌, ◌*◌, ◌/◌, ◌≤◌, ◌<◌, ◌≡◌, ◌⊎◌, Bool, true, false, cond, List, [], ◌∷◌, T, ltb, Option, Some, None}
use Rattle.std.proofs.Common.{eq-or-lt_of_le, arith, sym, ap, ap₂, subst, subst₂, ◌∙◌, inl, inr, ltb-true, ltb-false}
use Rattle.std.proofs.Math.Path.{refl}
use Rattle.facts.specs.Tests.{true_of}
use Rattle.facts.specs.Numbers.{Compared, less, same, more, compared}
use Rattle.facts.specs.Lists.{Each, each_so, each_in, In, Rising}
use Rattle.ground.specs.declared.Rectangle.{Rectangle}
use Rattle.ground.specs.declared.Cell.{Cell}
use Rattle.ground.specs.Levels.{lat, lon, degree, levels, IsLevel, smallest_size}
use Rattle.ground.specs.Cells.{low_side, high_side, sides_of, IsCell}
use Rattle.ground.proofs.LevelsLaws.{levels_are, levels_all, levels_rising}
use Rattle.ground.proofs.CellsLaws.{low_below_high, sides_smallest}
use Rattle.ground.proofs.SidesLaws.{low_most, low_low, below_high, high_low, none_between, side_end}
use Rattle.edge.specs.Edge.{Edge}
use Rattle.boundary.specs.Boundary.{inside}
use Rattle.chosen.specs.Chosen.{Before, Chosen, sides_from, sides_over, or_else, first_among, tried, wests, souths, try_south, try_west, try_level, choose, Over}
use Rattle.chosen.specs.InExtents.{in_extents}

-- Of two cells one is before the other, or they are the same
one_before : (c d : Cell) → (Before c d) ⊎ ((Before d c) ⊎ (c ≡ d))
one_before c d = level (compared c.level d.level) (compared c.west.0 d.west.0) (compared c.south.0 d.south.0)
  where
    level : Compared c.level d.level → Compared c.west.0 d.west.0 → Compared c.south.0 d.south.0
        → (Before c d) ⊎ ((Before d c) ⊎ (c ≡ d))
    level (less h) w s = inl (inl h)
    level (more h) w s = inr (inl (inl h))
    level (same e) (less h) s = inl (inr (e, inl h))
    level (same e) (more h) s = inr (inl (inr (sym e, inl h)))
    level (same e) (same w) (less h) = inl (inr (e, inr (w, h)))
    level (same e) (same w) (more h) = inr (inl (inr (sym e, inr (sym w, h))))
    level (same e) (same w) (same s) = inr (inr (λ i. record { level = e i; west = record { 0 = w i }; south = record { 0 = s i } }))

-- There is at most one chosen cell
pub one_chosen : (es : List Edge) {c d : Cell} → Chosen es c → Chosen es d → c ≡ d
one_chosen es {c} {d} h k = at (one_before c d)
  where
    at : (Before c d) ⊎ ((Before d c) ⊎ (c ≡ d)) → c ≡ d
    at (inl b) = absurd (k.first c h.cell h.within b)
    at (inr (inl b)) = absurd (h.first d k.cell k.within b)
    at (inr (inr e)) = e

-- A low side of a level between two ends, the first included
pub record Side (level from to a : ℕ) : Type 0 where
  pub is : low_side level a ≡ a
  pub least : from ≤ a
  pub below : a < to

module _ (level : ℕ) (l : IsLevel level) where
  -- The sides from a low side on are low sides from it on and below the end
  from_sides : (n a end : ℕ) → low_side level a ≡ a → Each (Side level a end) (sides_from n level a end)
  from_sides zero a end is = tt
  from_sides (suc n) a end is = at (ltb a end) refl (from_sides n (high_side level a) end (high_low level l a is))
    where
      at : (t : Bool) → ltb a end ≡ t → Each (Side level (high_side level a) end) (sides_from n level (high_side level a) end)
          → Each (Side level a end) (elim t [ true ↦ a ∷ sides_from n level (high_side level a) end | false ↦ [] ])
      at true e later = (
        record { is = is; least = omega arith; below = ltb-true a end e },
        each_so
            (λ x h. record { is = h.is; least = omega (arith, (sides_smallest level l is).apart, h.least); below = h.below })
            (sides_from n level (high_side level a) end) later,
      )
      at false e later = tt

  -- in increasing order
  from_rising : (n a end : ℕ) → low_side level a ≡ a → Rising (sides_from n level a end)
  from_rising zero a end is = tt
  from_rising (suc n) a end is =
      let next : low_side level (high_side level a) ≡ high_side level a = high_low level l a is in
      at (ltb a end) (from_sides n (high_side level a) end next) (from_rising n (high_side level a) end next)
    where
      at : (t : Bool) → Each (Side level (high_side level a) end) (sides_from n level (high_side level a) end)
          → Rising (sides_from n level (high_side level a) end)
          → Rising (elim t [ true ↦ a ∷ sides_from n level (high_side level a) end | false ↦ [] ])
      at true later rising = (
        each_so
            (λ x h. omega (arith, (sides_smallest level l is).apart, h.least))
            (sides_from n level (high_side level a) end) later,
        rising,
      )
      at false later rising = tt

  -- A low side is the first of them, or one of those from the next on
  from_next : (n a end b : ℕ) → Side level a end b → (a < b → In b (sides_from n level (high_side level a) end))
      → In b (sides_from (suc n) level a end)
  from_next n a end b h later = at (ltb a end) refl (eq-or-lt_of_le h.least)
    where
      at : (t : Bool) → ltb a end ≡ t → (a ≡ b) ⊎ (a < b)
          → In b (elim t [ true ↦ a ∷ sides_from n level (high_side level a) end | false ↦ [] ])
      at true e (inl k) = inl (sym k)
      at true e (inr k) = inr (later k)
      at false e k = let none : ⊥ = omega (arith, ltb-false a end e, h.least, h.below) in absurd none

  -- so each low side is one of them, where there are steps enough
  pub from_all : (n a end b : ℕ) → low_side level a ≡ a → Side level a end b → (b - a) / smallest_size < n → In b (sides_from n level a end)
  from_all zero a end b is h few = let none : ⊥ = omega arith in absurd none
  from_all (suc n) a end b is h few =
      from_next n a end b h λ k.
      from_all n (high_side level a) end b (high_low level l a is)
      (record { is = h.is; least = none_between level l a b is h.is k; below = h.below })
      (omega (arith, (sides_smallest level l is).apart, none_between level l a b is h.is k))

  -- The sides over an extent are low sides, from that of its first angle on and below its end
  pub over_sides : (from to : ℕ) → Each (Side level (low_side level from) to) (sides_over level from to)
  over_sides from to = from_sides ((to - from) / smallest_size + 2) (low_side level from) to (low_low level l from)

  -- in increasing order
  pub over_rising : (from to : ℕ) → Rising (sides_over level from to)
  over_rising from to = from_rising ((to - from) / smallest_size + 2) (low_side level from) to (low_low level l from)

  -- and all of them
  pub over_all : (from to a : ℕ) → Side level (low_side level from) to a → In a (sides_over level from to)
  over_all from to a h =
      let low : low_side level (low_side level from) ≡ low_side level from = low_low level l from in
      let count : suc ((to - from) / smallest_size + 1) ≡ (to - from) / smallest_size + 2 = omega arith in
      subst (λ (n : ℕ). In a (sides_from n level (low_side level from) to)) count
      (from_next ((to - from) / smallest_size + 1) (low_side level from) to a h λ k.
      let next : high_side level (low_side level from) ≤ a = none_between level l (low_side level from) a low h.is k in
      from_all ((to - from) / smallest_size + 1) (high_side level (low_side level from)) to a
      (high_low level l (low_side level from) low)
      (record { is = h.is; least = next; below = h.below })
      (omega (arith, below_high level l from, h.below)))

  -- among them each low side from the extent's first angle on whose cell ends at or before the extent's end
  over_in : (from to a : ℕ) → low_side level a ≡ a → from ≤ a → high_side level a ≤ to → In a (sides_over level from to)
  over_in from to a is least most =
      over_all from to a
      (record {
        is = is;
        least = omega (arith, low_most level l from);
        below = omega (arith, low_below_high level a l);
      })

  -- A cell from one of them ends at or before a whole number of degrees that the extent ends at or before
  over_end : (from to n a : ℕ) → to ≤ n * degree → In a (sides_over level from to) → (low_side level a ≡ a) × (high_side level a ≤ n * degree)
  over_end from to n a most m =
      let h : Side level (low_side level from) to a =
      each_in (Side level (low_side level from) to) (sides_over level from to) a (over_sides from to) m in
      (h.is, side_end level l n h.is h.below most)

-- Trying a list of numbers gives a cell: one of them gives it, and every lesser one gives none
pub record Found (try : ℕ → Option Cell) (xs : List ℕ) (c : Cell) : Type 0 where
  pub number : ℕ
  pub among : In number xs
  pub gives : try number ≡ Some c
  pub lesser : (y : ℕ) → In y xs → y < number → try y ≡ None

-- Where trying gives no cell, none of them gives one
pub first_none : (try : ℕ → Option Cell) (xs : List ℕ) → first_among try xs ≡ None → Each (λ (x : ℕ). try x ≡ None) xs
first_none try [] e = tt
first_none try (x ∷ xs) e = at (try x) e (first_none try xs)
  where
    at : (t : Option Cell) → or_else t (λ _. first_among try xs) ≡ None
        → (first_among try xs ≡ None → Each (λ (y : ℕ). try y ≡ None) xs)
        → (t ≡ None) × Each (λ (y : ℕ). try y ≡ None) xs
    at (Some c) k later = let none : ◌≡◌ {A = ℕ} 0 1 = cc in absurd (omega arith)
    at None k later = (refl, later k)

-- Where trying a list in increasing order gives a cell, the least number that gives one gives it
pub first_found : (try : ℕ → Option Cell) (xs : List ℕ) {c : Cell} → Rising xs → first_among try xs ≡ Some c → Found try xs c
first_found try [] r e = let none : ◌≡◌ {A = ℕ} 0 1 = cc in absurd (omega arith)
first_found try (x ∷ xs) {c} r e = at (try x) refl e (first_found try xs r.1)
  where
    at : (t : Option Cell) → try x ≡ t → or_else t (λ _. first_among try xs) ≡ Some c → (first_among try xs ≡ Some c → Found try xs c)
        → Found try (x ∷ xs) c
    at (Some d) here k later = record { number = x; among = inl refl; gives = here ∙ k; lesser = lesser }
      where
        lesser : (y : ℕ) → In y (x ∷ xs) → y < x → try y ≡ None
        lesser y (inl e) h = let none : ⊥ = omega arith in absurd none
        lesser y (inr m) h = let none : ⊥ = omega (arith, each_in (λ z. x < z) xs y r.0 m) in absurd none
    at None here k later =
        let f : Found try xs c = later k in
        record { number = f.number; among = inr f.among; gives = f.gives; lesser = lesser f }
      where
        lesser : (f : Found try xs c) (y : ℕ) → In y (x ∷ xs) → y < f.number → try y ≡ None
        lesser f y (inl e) h = ap try e ∙ here
        lesser f y (inr m) h = f.lesser y m h

-- Where trying a cell gives one, it is that cell and it is inside
tried_at : (es : List Edge) (c : Cell) {d : Cell} → tried es c ≡ Some d → T (inside es c) × (c ≡ d)
tried_at es c {d} e = at (inside es c) e
  where
    at : (b : Bool) → cond b (Some c) None ≡ Some d → T b × (c ≡ d)
    at true k = (tt, cc)
    at false k = let none : ◌≡◌ {A = ℕ} 0 1 = cc in absurd (omega arith)

-- and where trying gives none it is not inside
tried_none : (es : List Edge) (c : Cell) → tried es c ≡ None → T (inside es c) → ⊥
tried_none es c e t = at (inside es c) e t
  where
    at : (b : Bool) → cond b (Some c) None ≡ None → T b → ⊥
    at true k t = let none : ◌≡◌ {A = ℕ} 0 1 = cc in omega arith
    at false k t = t

module _ {r : Rectangle} {es : List Edge} (o : Over r es) where
  -- The computation tries the levels 9 to 27
  choose_is : choose r es ≡ first_among (try_level r es) levels
  unfolding choose
  choose_is = refl

  module _ (d : Cell) (is : IsCell d) (t : T (inside es d)) where
    -- A cell that is inside has its sides and its level among those that are tried
    west_in : In d.west.0 (wests r d.level)
    unfolding sides_of
    west_in =
        let within = in_extents o d is (true_of (inside es d) t) in
        over_in d.level is.level r.west.0 r.east.0 d.west.0 is.west
        within.west within.east

    south_in : In d.south.0 (souths r d.level)
    unfolding sides_of
    south_in =
        let within = in_extents o d is (true_of (inside es d) t) in
        over_in d.level is.level r.south.0 r.north.0 d.south.0 is.south
        within.south within.north

    level_in : In d.level levels
    level_in = levels_all d.level is.level

    -- and trying them gives a cell
    some_south : try_south es d.level d.west.0 d.south.0 ≡ None → ⊥
    some_south e = tried_none es d e t

    some_west : try_west r es d.level d.west.0 ≡ None → ⊥
    some_west e =
        some_south
        (each_in (λ n. try_south es d.level d.west.0 n ≡ None) (souths r d.level) d.south.0
        (first_none (try_south es d.level d.west.0) (souths r d.level) e) south_in)

    some_level : try_level r es d.level ≡ None → ⊥
    some_level e =
        some_west
        (each_in (λ n. try_west r es d.level n ≡ None) (wests r d.level) d.west.0
        (first_none (try_west r es d.level) (wests r d.level) e) west_in)

  -- Where the computation says none, no cell of levels 9 to 27 is inside
  pub choose_none : choose r es ≡ None → (c : Cell) → IsCell c → T (inside es c) → ⊥
  choose_none e c is t =
      some_level c is t
      (each_in (λ n. try_level r es n ≡ None) levels c.level
      (first_none (try_level r es) levels (sym choose_is ∙ e)) (level_in c is t))

  module _ {c : Cell} (l : Found (try_level r es) levels c) (w : Found (try_west r es l.number) (wests r l.number) c)
      (s : Found (try_south es l.number w.number) (souths r l.number) c) where
    -- A level, a west and a south side that are found first make a cell
    abbrev found : Cell
    found = record { level = l.number; west = lon w.number; south = lat s.number }

    -- It is a cell
    found_cell : IsCell found
    unfolding sides_of
    found_cell =
        let level = levels_are l.number l.among in
        let west =
        over_end l.number level r.west.0 r.east.0 180 w.number
        o.east_end w.among in
        let south =
        over_end l.number level r.south.0 r.north.0 90 s.number
        o.north_end s.among in
        record {
          level = level;
          west = west.0;
          south = south.0;
          east_end = west.1;
          north_end = south.1;
        }

    -- that no cell inside is before
    none_before : (d : Cell) → IsCell d → T (inside es d) → Before d found → ⊥
    none_before d is t (inl h) = some_level d is t (l.lesser d.level (level_in d is t) h)
    none_before d is t (inr (e, inl h)) =
        some_west d is t
        (subst (λ (n : ℕ). try_west r es n d.west.0 ≡ None) (sym e)
        (w.lesser d.west.0 (subst (λ (n : ℕ). In d.west.0 (wests r n)) e (west_in d is t)) h))
    none_before d is t (inr (e, inr (k, h))) =
        some_south d is t
        (subst₂ (λ (n m : ℕ). try_south es n m d.south.0 ≡ None) (sym e) (sym k)
        (s.lesser d.south.0 (subst (λ (n : ℕ). In d.south.0 (souths r n)) e (south_in d is t)) h))

    -- so it is chosen
    found_chosen : Chosen es c
    found_chosen =
        let at = tried_at es found s.gives in
        subst (Chosen es) at.1 (record { cell = found_cell; within = at.0; first = none_before })

  module _ where
    -- What the computation gives is the chosen cell
    pub choose_chosen : {c : Cell} → choose r es ≡ Some c → Chosen es c
    choose_chosen {c} e =
        let l : Found (try_level r es) levels c = first_found (try_level r es) levels levels_rising (sym choose_is ∙ e) in
        let level = levels_are l.number l.among in
        let w : Found (try_west r es l.number) (wests r l.number) c =
        first_found (try_west r es l.number) (wests r l.number)
        (over_rising l.number level r.west.0 r.east.0) l.gives in
        let s : Found (try_south es l.number w.number) (souths r l.number) c =
        first_found (try_south es l.number w.number) (souths r l.number)
        (over_rising l.number level r.south.0 r.north.0) w.gives in
        found_chosen l w s

    -- and it gives the chosen cell where there is one
    pub chosen_choose : {c : Cell} → Chosen es c → choose r es ≡ Some c
    chosen_choose {c} h = at (choose r es) refl
      where
        at : (t : Option Cell) → choose r es ≡ t → t ≡ Some c
        at (Some d) e = ap Some (one_chosen es (choose_chosen e) h)
        at None e = absurd (choose_none e c h.cell h.within)

    -- It says none where no cell of levels 9 to 27 is inside
    pub none_choose : ((c : Cell) → IsCell c → T (inside es c) → ⊥) → choose r es ≡ None
    none_choose none = at (choose r es) refl
      where
        at : (t : Option Cell) → choose r es ≡ t → t ≡ None
        at (Some c) e = let h : Chosen es c = choose_chosen e in absurd (none c h.cell h.within)
        at None e = refl

-- Trying numbers in turn gives the same where trying each does
among_same : (try other : ℕ → Option Cell) (xs : List ℕ) → ((x : ℕ) → In x xs → try x ≡ other x) → first_among try xs ≡ first_among other xs
among_same try other [] agree = refl
among_same try other (x ∷ xs) agree =
    ap₂ (λ (c d : Option Cell). or_else c (λ _. d)) (agree x (inl refl)) (among_same try other xs (λ y m. agree y (inr m)))

-- The computation gives the same over edges that have the same cells of levels 9 to 27 inside
module _ (r : Rectangle) (es ds : List Edge) (agree : (c : Cell) → IsLevel c.level → inside es c ≡ inside ds c) where
  south_same : (level : ℕ) → IsLevel level → (west south : ℕ) → try_south es level west south ≡ try_south ds level west south
  south_same level l west south =
      let c : Cell = record { level = level; west = lon west; south = lat south } in
      ap (λ (b : Bool). cond b (Some c) None) (agree c l)

  west_same : (level : ℕ) → IsLevel level → (west : ℕ) → try_west r es level west ≡ try_west r ds level west
  west_same level l west =
      among_same (try_south es level west) (try_south ds level west) (souths r level) (λ south _. south_same level l west south)

  level_same : (level : ℕ) → IsLevel level → try_level r es level ≡ try_level r ds level
  level_same level l = among_same (try_west r es level) (try_west r ds level) (wests r level) (λ west _. west_same level l west)

  pub choose_same : choose r es ≡ choose r ds
  unfolding choose
  choose_same =
      among_same (try_level r es) (try_level r ds) levels (λ level m. level_same level (levels_are level m))
