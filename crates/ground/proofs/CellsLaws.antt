-- The laws of a cell, for the level and the direction as parameters: its high side is above its low one, the test for a cell tells, its
-- sides are whole multiples of the smallest size, and the location cell lies within it. Assumes nothing.
use Rattle.std.specs.Prelude.{ℕ, ◌+◌, ◌-◌, ◌*◌, ◌/◌, ◌%◌, ◌≤◌, ◌<◌, min, ◌≡◌, refl, ◌≢◌, Bool, true, false, cond, ◌&&◌, leb, eqb, Some, None}
use Rattle.std.specs.Int.{◌∣◌}
use Rattle.std.proofs.Math.Nat.{dvd-add, dvd-sub, dvd-mul_left_of_dvd, dvd_of_mod-eq-zero, mod-eq-zero_of_dvd, le_of_dvd, lt-div-mul-add}
use Rattle.std.proofs.Common.{arith, ap, subst, ◌∙◌, eqb→eq, leb-true, leb-false, eqb-true, le-leb, eq-eqb}
use Rattle.std.proofs.lemmas.Bool.{false≢true, eqb-false}
use Rattle.ground.specs.declared.Rectangle.{Rectangle}
use Rattle.ground.specs.declared.Cell.{Cell}
use Rattle.ground.specs.Levels.{lat, lon, degree, minute, lat_end, lon_end, coarsest_level, finest_level, IsLevel, smallest_size, size_of}
use Rattle.ground.specs.Levels.{minute_level}
use Rattle.ground.proofs.LevelsLaws.{at_level, size_least, size_whole}
use Rattle.ground.specs.Rectangles.{Wide, centre_of}
use Rattle.ground.specs.Cells.{afresh, start_of, low_side, high_side, sides_of, IsCell, location_level, location_size, location_cell}
use Rattle.ground.specs.Cells.{is_side, is_cell, sides_found}

-- A cell's high side is above its low side
pub low_below_high : (level a : ℕ) → IsLevel level → a < high_side level a
unfolding high_side afresh
low_below_high level a l =
    at (leb level minute_level)
  where
    at : (t : Bool) → a < min (a + size_of level) (a / cond t degree minute * cond t degree minute + cond t degree minute)
    at true = omega (arith, size_least level l)
    at false = omega (arith, size_least level l)

-- A cell is wide
pub cell_wide : (c : Cell) → IsLevel c.level → Wide (sides_of c)
unfolding sides_of
cell_wide c l = record { across = low_below_high c.level c.west.0 l; up = low_below_high c.level c.south.0 l }

-- A cell passes the test
pub is_cell_lem : (c : Cell) → IsCell c → is_cell c ≡ true
unfolding is_cell is_side sides_of
is_cell_lem c p =
    rw (
      le-leb coarsest_level c.level p.level.coarsest,
      le-leb c.level finest_level p.level.finest,
      eq-eqb (low_side c.level c.west.0) c.west.0 p.west,
      le-leb (high_side c.level c.west.0) lon_end p.east_end,
      eq-eqb (low_side c.level c.south.0) c.south.0 p.south,
      le-leb (high_side c.level c.south.0) lat_end p.north_end,
    )

-- What passes the test for a side ends at or before the end of the range
pub side_ends : (level a end : ℕ) → is_side level a end ≡ true → high_side level a ≤ end
unfolding is_side
side_ends level a end e = at (eqb (low_side level a) a) (leb (high_side level a) end) refl e
  where
    at : (t u : Bool) → leb (high_side level a) end ≡ u → (t && u) ≡ true → high_side level a ≤ end
    at true true k h = leb-true (high_side level a) end k
    at true false k h = absurd (false≢true h)
    at false u k h = absurd (false≢true h)

-- Where sides are found there is a cell, and they are its own
pub found_of : (c : Cell) (r : Rectangle) → Some r ≡ sides_found c → (is_cell c ≡ true) × (r ≡ sides_of c)
unfolding sides_found
found_of c r e = at (is_cell c) e
  where
    at : (t : Bool) → Some r ≡ cond t (Some (sides_of c)) None → (t ≡ true) × (r ≡ sides_of c)
    at true k = (refl, cc)
    at false k = let none : ◌≡◌ {A = ℕ} 0 1 = cc in absurd (omega arith)

-- Where none are found there is none
pub found_none : (c : Cell) → None ≡ sides_found c → is_cell c ≡ false
unfolding sides_found
found_none c e = at (is_cell c) e
  where
    at : (t : Bool) → None ≡ cond t (Some (sides_of c)) None → t ≡ false
    at true k = let none : ◌≡◌ {A = ℕ} 0 1 = cc in absurd (omega arith)
    at false k = refl

-- Cells start afresh at each degree or at each minute
pub afresh_so : (P : ℕ → Type 0) → P degree → P minute → (level : ℕ) → P (afresh level)
unfolding afresh
afresh_so P d m level = at (leb level minute_level)
  where
    at : (b : Bool) → P (cond b degree minute)
    at true = d
    at false = m

-- What divides two numbers divides the lesser
dvd_min : (u a b : ℕ) → u ∣ a → u ∣ b → u ∣ min a b
dvd_min u a b h k = at (leb a b) refl
  where
    at : (t : Bool) → leb a b ≡ t → u ∣ min a b
    at true e = let l : a ≤ b = leb-true a b e in subst (λ (n : ℕ). u ∣ n) (omega arith) h
    at false e = let l : b < a = leb-false a b e in subst (λ (n : ℕ). u ∣ n) (omega arith) k

-- A low and a high side are whole multiples of a length, and apart by at least as much
pub record Whole (u a b : ℕ) : Type 0 where
  pub low : a % u ≡ 0
  pub high : b % u ≡ 0
  pub apart : a + u ≤ b

-- What divides a level's size, and a minute and a degree, divides its cells' sides
sides_whole : (u level a : ℕ) → u ∣ size_of level → u ∣ afresh level → 0 < size_of level → low_side level a ≡ a → Whole u a (high_side level a)
unfolding low_side high_side
sides_whole u level a s m h is =
    let start : u ∣ start_of level a = dvd-mul_left_of_dvd u m (a / afresh level) in
    let low : u ∣ a = subst (λ (n : ℕ). u ∣ n) is (dvd-add u start (dvd-mul_left_of_dvd u s (a % afresh level / size_of level))) in
    let high : u ∣ high_side level a = dvd_min u (a + size_of level) (start_of level a + afresh level) (dvd-add u low s) (dvd-add u start m) in
    let some : 0 < afresh level = afresh_so (λ (n : ℕ). 0 < n) (omega arith) (omega arith) level in
    let above : a < start_of level a + afresh level = lt-div-mul-add some in
    let more : a < high_side level a = omega arith in
    let apart : u ≤ high_side level a - a = le_of_dvd (omega arith) (dvd-sub u high low) in
    record { low = mod-eq-zero_of_dvd u low; high = mod-eq-zero_of_dvd u high; apart = omega arith }

-- The location cell's size is its level's
size_location : size_of location_level ≡ location_size
unfolding size_of
size_location = refl

-- and before that level a size is a multiple of twice that
size_even : (level : ℕ) → coarsest_level ≤ level → level < location_level → size_of level % (2 * location_size) ≡ 0
unfolding size_of
size_even level low high =
    eqb→eq (size_of level % (2 * location_size)) 0 (at_level (λ n. eqb (size_of n % (2 * location_size)) 0) location_level tt level low high)

module _ (level : ℕ) (l : IsLevel level) {a : ℕ} (is : low_side level a ≡ a) where
  -- A cell's sides are whole multiples of what its size, a degree and a minute are multiples of
  sides_of_lem : (u : ℕ) → size_of level % u ≡ 0 → degree % u ≡ 0 → minute % u ≡ 0 → Whole u a (high_side level a)
  sides_of_lem u s d m =
      sides_whole u level a (dvd_of_mod-eq-zero u s)
      (afresh_so (λ (n : ℕ). u ∣ n) (dvd_of_mod-eq-zero u d) (dvd_of_mod-eq-zero u m) level)
      (omega (arith, size_least level l))
      is

  -- so of the smallest size, and apart by at least as much
  pub sides_smallest : Whole smallest_size a (high_side level a)
  sides_smallest = sides_of_lem smallest_size (size_whole level l) refl refl

  -- at the location cell's level of that cell's size
  sides_located : level ≡ location_level → Whole location_size a (high_side level a)
  sides_located e = sides_of_lem location_size (ap (λ (n : ℕ). n % location_size) (ap size_of e ∙ size_location)) refl refl

  -- and before it of twice that
  sides_even : level < location_level → Whole (2 * location_size) a (high_side level a)
  sides_even h = sides_of_lem (2 * location_size) (size_even level l.coarsest h) refl refl

-- A reference between two sides, the location cell's size or more below the high one
pub record Reference (a b r : ℕ) : Type 0 where
  pub low : a ≤ r
  pub high : r + location_size ≤ b
  pub whole : r % location_size ≡ 0

-- The location cell lies in its cell, in each direction
pub record Located (c l : Cell) : Type 0 where
  pub lat : Reference c.south.0 (sides_of c).north.0 l.south.0
  pub lon : Reference c.west.0 (sides_of c).east.0 l.west.0

pub located : (c : Cell) → IsCell c → Located c (location_cell c)
unfolding location_cell centre_of sides_of
located c is = at (eqb c.level location_level) refl
  where
    same : {a b : ℕ} → Whole location_size a b → Reference a b a
    same w = omega arith

    half : {a b : ℕ} → Whole (2 * location_size) a b → Reference a b ((a + b) / 2 - location_size)
    half {a} {b} w =
        let middle : (a + b) / 2 ≡ (a / (2 * location_size) + b / (2 * location_size)) * location_size = omega arith in
        let less : (a + b) / 2 - location_size ≡ (a / (2 * location_size) + b / (2 * location_size) - 1) * location_size = omega arith in
        record { low = omega arith; high = omega arith; whole = omega arith }

    middle : Cell
    middle = record {
      level = location_level;
      west = lon ((centre_of (sides_of c)).lon.0 - location_size);
      south = lat ((centre_of (sides_of c)).lat.0 - location_size);
    }

    at : (b : Bool) → eqb c.level location_level ≡ b → Located c (cond b c middle)
    at true e =
        let here : c.level ≡ location_level = eqb-true c.level location_level e in
        record {
          lat = same (sides_located c.level is.level is.south here);
          lon = same (sides_located c.level is.level is.west here);
        }
    at false e =
        let other : c.level ≢ location_level = eqb-false c.level location_level e in
        let coarser : c.level < location_level = omega (arith, is.level.finest) in
        record {
          lat = half (sides_even c.level is.level is.south coarser);
          lon = half (sides_even c.level is.level is.west coarser);
        }
