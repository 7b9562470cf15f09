-- Coding keeps to the ground (the mission's demand 3): extents, chosen cell, every refusal number from 4 on and the code are the same for
-- all lists of corners of one ground. Assumes nothing.
use Rattle.std.specs.Prelude.{ℕ, suc, ◌%◌, ◌/◌, min, max, ◌≡◌, refl, Bool, true, false, cond, ◌||◌, T, eqb, ltb, length, drop, Option}
use Rattle.std.proofs.Common.{arith, ap, ap₂, ◌∙◌, sym, subst, lt-ltb}
use Rattle.std.proofs.Math.Bool.{or_assoc, or-false, or-true}
use mathlib.Core.List.{List, [], ◌∷◌, ◌++◌, map, reverse, reverse-cons}
use Rattle.std.proofs.Math.Dec.{leb-suc-suc}
use Rattle.replies.specs.Replies.{Check, check, check_at, run}
use Rattle.facts.specs.Places.{first_place}
use Rattle.ground.specs.declared.Point.{Point}
use Rattle.ground.specs.declared.Rectangle.{Rectangle}
use Rattle.ground.specs.declared.Cell.{Cell}
use Rattle.ground.specs.Levels.{lat, lon, lat_end, lon_end, IsLevel}
use Rattle.ground.proofs.CellsLaws.{cell_wide}
use Rattle.boundary.specs.Boundary.{edges_of, inside}
use Rattle.boundary.specs.Sums.{next}
use Rattle.edge.specs.Edge.{Between, OnEdge}
use Rattle.boundary.specs.Changes.{SameGround}
use Rattle.boundary.specs.ChangesLaws.{Unchanged, same_ground, inside_same}
use Rattle.code.specs.Code.{outside}
use Rattle.unit.specs.declared.Kind.{Kind}
use Rattle.corners.specs.Corners.{corners_of}
use Rattle.crossed.specs.Crossed.{pair_of, crossed, start_of}
use Rattle.crossed.specs.CrossedLaws.{crossed_same}
use Rattle.unit.specs.Extents.{least_from, greatest_from, least, greatest, extremes_of}
use Rattle.chosen.specs.Chosen.{Chosen, choose}
use Rattle.chosen.proofs.ChosenLaws.{choose_same}
use Rattle.facts.specs.Numbers.{max_above}
use Rattle.unit.specs.Unit.{above_range, above_degree, bad_number, no_cell, code_at, chosen_cell, corner_checks, code_checks, coding}

-- The least or the greatest of a number and the angles of some corners, by an operation and in a direction
abbrev over : (ℕ → ℕ → ℕ) → (Point → ℕ) → ℕ → List Point → ℕ
over op dir x [] = x
over op dir x (p ∷ ps) = over op dir (op x (dir p)) ps

-- 0 where there are none
abbrev extreme : (ℕ → ℕ → ℕ) → (Point → ℕ) → List Point → ℕ
extreme op dir [] = 0
extreme op dir (p ∷ ps) = over op dir (dir p) ps

-- What least and greatest have in common
record Extreme (op : ℕ → ℕ → ℕ) : Type 0 where
  assoc : (x y z : ℕ) → op (op x y) z ≡ op x (op y z)
  comm : (x y : ℕ) → op x y ≡ op y x
  alone : (x y : ℕ) → Between x y x → x ≡ op x y
  between : (x y z : ℕ) → Between x y z → op x z ≡ op (op x y) z

least_extreme : Extreme min
least_extreme = record {
  assoc = λ x y z. omega arith;
  comm = λ x y. omega arith;
  alone = λ x y h. omega arith;
  between = λ x y z h. omega arith;
}

greatest_extreme : Extreme max
greatest_extreme = record {
  assoc = λ x y z. omega arith;
  comm = λ x y. omega arith;
  alone = λ x y h. omega arith;
  between = λ x y z h. omega arith;
}

module _ (op : ℕ → ℕ → ℕ) (laws : Extreme op) (dir : Point → ℕ) where
  over_first : (x y : ℕ) (ps : List Point) → over op dir (op x y) ps ≡ op (over op dir x ps) y
  over_first x y [] = refl
  over_first x y (p ∷ ps) =
      ap (λ (n : ℕ). over op dir n ps) (laws.assoc x y (dir p) ∙ ap (op x) (laws.comm y (dir p)) ∙ sym (laws.assoc x (dir p) y))
      ∙ over_first (op x (dir p)) y ps

  over_last : (x : ℕ) (ps : List Point) (p : Point) → over op dir x (ps ++ (p ∷ [])) ≡ op (over op dir x ps) (dir p)
  over_last x [] p = refl
  over_last x (q ∷ ps) p = over_last (op x (dir q)) ps p

  over_reverse : (x : ℕ) (ps : List Point) → over op dir x ps ≡ over op dir x (reverse ps)
  over_reverse x [] = refl
  over_reverse x (p ∷ ps) =
      over_first x (dir p) ps ∙ ap (λ (n : ℕ). op n (dir p)) (over_reverse x ps) ∙ sym (over_last x (reverse ps) p)
      ∙ ap (over op dir x) (sym (reverse-cons p ps))

  extreme_started : (c : Point) (cs : List Point) → extreme op dir (c ∷ cs) ≡ extreme op dir (cs ++ (c ∷ []))
  extreme_started c [] = refl
  extreme_started c (d ∷ ds) =
      ap (λ (n : ℕ). over op dir n ds) (laws.comm (dir c) (dir d)) ∙ over_first (dir d) (dir c) ds ∙ sym (over_last (dir d) ds c)

  -- Least and greatest angles are unchanged
  extreme_unchanged : ((a p b : Point) → OnEdge a p b → Between (dir a) (dir p) (dir b)) → Unchanged (extreme op dir)
  extreme_unchanged on_between = record { started = extreme_started; turned = turned; set = set }
    where
      turned : (cs : List Point) → extreme op dir cs ≡ extreme op dir (reverse cs)
      turned [] = refl
      turned (c ∷ cs) =
          over_reverse (dir c) cs ∙ extreme_started c (reverse cs) ∙ ap (extreme op dir) (sym (reverse-cons c cs))

      set : (a p : Point) (cs : List Point) → OnEdge a p (next a cs) → extreme op dir (a ∷ cs) ≡ extreme op dir (a ∷ p ∷ cs)
      set a p [] on = laws.alone (dir a) (dir p) (on_between a p a on)
      set a p (b ∷ cs) on = ap (λ (n : ℕ). over op dir n cs) (laws.between (dir a) (dir p) (dir b) (on_between a p b on))

module _ (dir : Point → ℕ) where
  least_over : (x : ℕ) (ps : List Point) → least_from x (map dir ps) ≡ over min dir x ps
  least_over x [] = refl
  least_over x (p ∷ ps) = least_over (min x (dir p)) ps

  least_is : (cs : List Point) → least (map dir cs) ≡ extreme min dir cs
  least_is [] = refl
  least_is (c ∷ cs) = least_over (dir c) cs

  greatest_over : (x : ℕ) (ps : List Point) → greatest_from x (map dir ps) ≡ over max dir x ps
  greatest_over x [] = refl
  greatest_over x (p ∷ ps) = greatest_over (max x (dir p)) ps

  greatest_is : (cs : List Point) → greatest (map dir cs) ≡ extreme max dir cs
  greatest_is [] = refl
  greatest_is (c ∷ cs) = greatest_over (dir c) cs

  module _ (on_between : (a p b : Point) → OnEdge a p b → Between (dir a) (dir p) (dir b)) {cs ds : List Point} (g : SameGround cs ds) where
    least_same : least (map dir cs) ≡ least (map dir ds)
    least_same =
        least_is cs ∙ same_ground (extreme min dir) (extreme_unchanged min least_extreme dir on_between) g ∙ sym (least_is ds)

    greatest_same : greatest (map dir cs) ≡ greatest (map dir ds)
    greatest_same =
        greatest_is cs ∙ same_ground (extreme max dir) (extreme_unchanged max greatest_extreme dir on_between) g ∙ sym (greatest_is ds)

-- Extents are the same for all of one ground
pub extremes_same : {cs ds : List Point} → SameGround cs ds → extremes_of cs ≡ extremes_of ds
unfolding extremes_of
extremes_same g =
    let on_lat : (a p b : Point) → OnEdge a p b → Between a.lat.0 p.lat.0 b.lat.0 = λ a p b on. on.lat in
    let on_lon : (a p b : Point) → OnEdge a p b → Between a.lon.0 p.lon.0 b.lon.0 = λ a p b on. on.lon in
    let west = least_same (λ p. p.lon.0) on_lon g in
    let east = greatest_same (λ p. p.lon.0) on_lon g in
    let south = least_same (λ p. p.lat.0) on_lat g in
    let north = greatest_same (λ p. p.lat.0) on_lat g in
    λ i. record { west = lon (west i); east = lon (east i); south = lat (south i); north = lat (north i) }

-- A cell of levels 9 to 27 is inside for all of one ground
inside_cell : {cs ds : List Point} → SameGround cs ds → (c : Cell) → IsLevel c.level → inside (edges_of cs) c ≡ inside (edges_of ds) c
inside_cell g c l = inside_same g (cell_wide c l)

-- The chosen cell is the same for all of one ground
pub chosen_cell_same : {cs ds : List Point} → SameGround cs ds → chosen_cell cs ≡ chosen_cell ds
chosen_cell_same {cs} {ds} g =
    choose_same (extremes_of cs) (edges_of cs) (edges_of ds) (inside_cell g) ∙ ap (λ (r : Rectangle). choose r (edges_of ds)) (extremes_same g)

-- and so is the cell that document 01 says is chosen
pub chosen_same : {cs ds : List Point} {c : Cell} → SameGround cs ds → Chosen (edges_of cs) c → Chosen (edges_of ds) c
chosen_same {cs} {ds} {c} g chosen = record {
  cell = chosen.cell;
  within = subst T (inside_cell g c chosen.cell.level) chosen.within;
  first = λ d cell t. chosen.first d cell (subst T (sym (inside_cell g d cell.level)) t);
}

-- The code is the same for all of one ground
pub code_same : {cs ds : List Point} → SameGround cs ds → (number : ℕ)
    → code_at (extremes_of cs) number (chosen_cell cs) ≡ code_at (extremes_of ds) number (chosen_cell ds)
code_same g number = ap₂ (λ (r : Rectangle) (c : Option Cell). code_at r number c) (extremes_same g) (chosen_cell_same g)

-- A test that some corner passes
abbrev some : (Point → Bool) → List Point → Bool
some test [] = false
some test (p ∷ ps) = test p || some test ps

-- There is a first such corner before the end of the list
first_some : (test : Point → Bool) (ps : List Point) → ltb (first_place test ps) (length ps) ≡ some test ps
first_some test [] = refl
first_some test (p ∷ ps) = at (test p) (first_some test ps)
  where
    at : (i : Bool) → ltb (first_place test ps) (length ps) ≡ some test ps
        → ltb (cond i 0 (suc (first_place test ps))) (suc (length ps)) ≡ (i || some test ps)
    at true ih = lt-ltb 0 (suc (length ps)) (omega arith)
    at false ih = leb-suc-suc (suc (first_place test ps)) (length ps) ∙ ih

-- The greatest angle is above an end where the angle of some corner is
greatest_above : (dir : Point → ℕ) (end x : ℕ) (ps : List Point)
    → ltb end (over max dir x ps) ≡ (ltb end x || some (λ p. ltb end (dir p)) ps)
greatest_above dir end x [] = sym (or-false (ltb end x))
greatest_above dir end x (p ∷ ps) =
    greatest_above dir end (max x (dir p)) ps ∙ ap (λ (b : Bool). b || some (λ p. ltb end (dir p)) ps) (max_above end x (dir p))
    ∙ or_assoc (ltb end x) (ltb end (dir p)) (some (λ p. ltb end (dir p)) ps)

-- Some corner passes one of two tests where some passes the one or some the other
some_or : (test other : Point → Bool) (ps : List Point) → some (λ p. test p || other p) ps ≡ (some test ps || some other ps)
some_or test other [] = refl
some_or test other (p ∷ ps) =
    ap (λ (b : Bool). test p || other p || b) (some_or test other ps) ∙ shuffled (test p) (other p) (some test ps) (some other ps)
  where
    shuffled : (i j k l : Bool) → (i || j || (k || l)) ≡ (i || k || (j || l))
    shuffled true j k l = refl
    shuffled false true k l = sym (or-true k)
    shuffled false false k l = refl

-- A coordinate is above its range where an extreme is
pub above_is : (cs : List Point)
    → ltb (first_place above_range cs) (length cs) ≡ (ltb lat_end (extremes_of cs).north.0 || ltb lon_end (extremes_of cs).east.0)
unfolding extremes_of
above_is [] = refl
above_is (c ∷ cs) =
    first_some above_range (c ∷ cs) ∙ some_or (λ p. ltb lat_end p.lat.0) (λ p. ltb lon_end p.lon.0) (c ∷ cs)
    ∙ ap₂ ◌||◌ (sym (at (λ p. p.lat.0) lat_end)) (sym (at (λ p. p.lon.0) lon_end))
  where
    at : (dir : Point → ℕ) (end : ℕ) → ltb end (greatest (map dir (c ∷ cs))) ≡ some (λ p. ltb end (dir p)) (c ∷ cs)
    at dir end = ap (ltb end) (greatest_is dir (c ∷ cs)) ∙ greatest_above dir end (dir c) cs

-- The number that a table says is the first row's where that refuses
first_number : (b : Bool) (n place : ℕ) (rows : List Check) → (run (check_at n b place ∷ rows)).number ≡ cond b n (run rows).number
first_number true n place rows = refl
first_number false n place rows = refl

-- Every refusal number from 4 on is the same for all of one ground
pub number_same : {cs ds : List Point} → SameGround cs ds → (kind : Kind) (number : ℕ)
    → (run (corner_checks cs kind number)).number ≡ (run (corner_checks ds kind number)).number
unfolding corner_checks
number_same {cs} {ds} g kind number =
    told cs ∙ (λ i. table (extremes_same g i) (crossed_same g i) (chosen_cell_same g i)) ∙ sym (told ds)
  where
    rows : Option Cell → List Check
    rows c = check 6 (bad_number kind number) ∷ check 7 (no_cell c) ∷ []

    -- the number alone: the places of 4 and 31 may differ
    table : Rectangle → Bool → Option Cell → ℕ
    table r crosses c =
        cond (ltb lat_end r.north.0 || ltb lon_end r.east.0) 4
        (cond (above_degree r) 5 (cond crosses 31 (run (rows c)).number))

    told : (cs : List Point) → (run (corner_checks cs kind number)).number ≡ table (extremes_of cs) (crossed cs) (chosen_cell cs)
    told cs =
        let r : Rectangle = extremes_of cs in
        let last : List Check = rows (chosen_cell cs) in
        let crossing : List Check = check_at 31 (crossed cs) (start_of (pair_of cs)) ∷ last in
        first_number (ltb (first_place above_range cs) (length cs)) 4 (first_place above_range cs) (check 5 (above_degree r) ∷ crossing)
        ∙ ap₂ (λ (b : Bool) (n : ℕ). cond b 4 n) (above_is cs)
        (first_number (above_degree r) 5 0 crossing ∙ ap (cond (above_degree r) 5) (first_number (crossed cs) 31 (start_of (pair_of cs)) last))

-- Checks 1 to 3 pass
pub record Counted (room numbers : List ℕ) : Type 0 where
  pub long : ltb (length room) 20 ≡ false
  pub even : eqb (length numbers % 2) 1 ≡ false
  pub corners : outside 3 1024 (length numbers / 2) ≡ false

-- Coding says the same number and leaves the same room for all of one ground; only the first and the last list need pass checks 1 to 3
pub coding_same : {room numbers others : List ℕ} → Counted room numbers → Counted room others
    → SameGround (corners_of numbers) (corners_of others) → (kind : Kind) (number : ℕ)
    → ((coding room numbers kind number).said.number ≡ (coding room others kind number).said.number)
    × ((coding room numbers kind number).room ≡ (coding room others kind number).room)
unfolding coding
coding_same {room} {numbers} {others} h k g kind number =
    let said = passes numbers h ∙ number_same g kind number ∙ sym (passes others k) in (
      said,
      ap₂ (λ (n : ℕ) (code : List ℕ). cond (eqb n 0) (code ++ drop 20 room) room) said (code_same g number),
    )
  where
    passes : (numbers : List ℕ) → Counted room numbers
        → (run (code_checks (length room) numbers kind number)).number ≡ (run (corner_checks (corners_of numbers) kind number)).number
    passes numbers h = rw (h.long, h.even, h.corners)
