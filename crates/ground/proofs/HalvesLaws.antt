-- The laws of halves: a cell's low and high side in one direction are sides of the next level, and of each finer one; the high side of its
-- low half cuts it in two, or is its own; and no cell is narrower than the narrowest. Assumes nothing.
use Prim.Native.Nat.{ℕ, zero, suc, ◌+◌, ◌-◌, ◌*◌, ◌/◌, ◌%◌, ◌≤◌, ◌<◌, min}
use Rattle.std.proofs.Common.{div-add-mod', mod-lt, mul-le-mul_right, lt_of_mul-lt-mul_right, eq-or-lt_of_le, le_of_suc-le-suc, sym, subst, ◌∙◌, inl, inr, leb→le, eqb→eq, leb-true, leb-false, eq-eqb, ne_eqb}
use native.Mathlib.Omega.{arith}
use Rattle.std.specs.Prelude.{◌≡◌, refl, ◌⊎◌, ◌≢◌, Bool, true, false, cond, ◌&&◌, T, leb, eqb}
use Rattle.std.proofs.Math.Path.{ap}
use Rattle.facts.specs.Tests.{both_hold}
use Rattle.ground.specs.declared.Lat.{Lat}
use Rattle.ground.specs.declared.Lon.{Lon}
use Rattle.ground.specs.declared.Rectangle.{Rectangle}
use Rattle.ground.specs.Levels.{coarsest_level, finest_level, IsLevel, size_of}
use Rattle.ground.proofs.LevelsLaws.{at_level}
use Rattle.ground.specs.Rectangles.{south_of, north_of, west_of, east_of}
use Rattle.ground.specs.Cells.{afresh, start_of, low_side, high_side}
use Rattle.ground.proofs.CellsLaws.{low_below_high}
use Rattle.ground.proofs.SidesLaws.{Measured, start_is, some_size, some_afresh, side_measured, measured_side, high_low, none_between}
use Rattle.ground.specs.Halves.{Span, Ground, split_at, cut_of, narrowest}

-- The next level halves the size, and starts afresh where this one does
record HalvesSize (level : ℕ) : Type 0 where
  size : size_of level ≡ 2 * size_of (level + 1)
  same : afresh level ≡ afresh (level + 1)

-- as a test
abbrev halves_size : ℕ → Bool
halves_size level = eqb (size_of level) (2 * size_of (level + 1)) && eqb (afresh level) (afresh (level + 1))

-- or it starts afresh at each low side of this one, in cells of at least half the size
record Renews (level : ℕ) : Type 0 where
  size : size_of level ≡ afresh (level + 1)
  half : size_of level ≤ 2 * size_of (level + 1)
  whole : afresh level % afresh (level + 1) ≡ 0

-- as a test
abbrev renews : ℕ → Bool
renews level =
    eqb (size_of level) (afresh (level + 1))
    && (leb (size_of level) (2 * size_of (level + 1)) && eqb (afresh level % afresh (level + 1)) 0)

-- Each level before the finest is followed in one of both ways, as the table of sizes tells
followed : (level : ℕ) → coarsest_level ≤ level → level < finest_level → T (cond (halves_size level) true (renews level))
unfolding size_of afresh
followed level low high = at_level (λ l. cond (halves_size l) true (renews l)) finest_level tt level low high

-- so that one of both holds
next : (level : ℕ) → coarsest_level ≤ level → level < finest_level → HalvesSize level ⊎ Renews level
next level low high = at (halves_size level) is_halving (followed level low high)
  where
    is_halving : T (halves_size level) → HalvesSize level
    is_halving t =
        let a = eqb (size_of level) (2 * size_of (level + 1)) in
        let b = eqb (afresh level) (afresh (level + 1)) in
        record {
          size = eqb→eq (size_of level) (2 * size_of (level + 1)) (both_hold a b t).0;
          same = eqb→eq (afresh level) (afresh (level + 1)) (both_hold a b t).1;
        }

    is_renewing : T (renews level) → Renews level
    is_renewing t =
        let a = eqb (size_of level) (afresh (level + 1)) in
        let b = leb (size_of level) (2 * size_of (level + 1)) in
        let c = eqb (afresh level % afresh (level + 1)) 0 in
        record {
          size = eqb→eq (size_of level) (afresh (level + 1)) (both_hold a (b && c) t).0;
          half = leb→le (size_of level) (2 * size_of (level + 1)) (both_hold b c (both_hold a (b && c) t).1).0;
          whole = eqb→eq (afresh level % afresh (level + 1)) 0 (both_hold b c (both_hold a (b && c) t).1).1;
        }

    at : (b : Bool) → (T b → HalvesSize level) → T (cond b true (renews level)) → HalvesSize level ⊎ Renews level
    at true h t = inl (h tt)
    at false h t = inr (is_renewing t)

module _ (level : ℕ) (coarsest : coarsest_level ≤ level) (finest : level < finest_level) {a : ℕ} (is : low_side level a ≡ a) where
  -- A low side of a level, measured at the next one that starts afresh there
  renewed_measured : (n : Renews level)
      → Measured (level + 1) a (a / afresh level * (afresh level / afresh (level + 1)) + a % afresh level / size_of level) 0 0
  renewed_measured n =
      let h = side_measured level (omega arith) a is in
      let e = div-add-mod' (afresh level) (afresh (level + 1)) in
      let m : a / afresh level * afresh level ≡ a / afresh level * (afresh level / afresh (level + 1) * afresh (level + 1)) =
      ap (λ (k : ℕ). a / afresh level * k) (omega (arith, n.whole)) in
      let k : a % afresh level / size_of level * size_of level ≡ a % afresh level / size_of level * afresh (level + 1) =
      ap (λ (k : ℕ). a % afresh level / size_of level * k) n.size in
      record {
        sum = omega (arith, h.sum);
        rest = some_size (level + 1) (omega arith);
        since = omega (arith, some_afresh (level + 1) (omega arith));
      }

  -- and at one that halves the size
  halving_measured : (n : HalvesSize level) → Measured (level + 1) a (a / afresh level) (2 * (a % afresh level / size_of level)) 0
  halving_measured n =
      let h = side_measured level (omega arith) a is in
      let m : a / afresh level * afresh level ≡ a / afresh level * afresh (level + 1) = ap (λ (k : ℕ). a / afresh level * k) n.same in
      let k : a % afresh level / size_of level * size_of level ≡ a % afresh level / size_of level * (2 * size_of (level + 1)) =
      ap (λ (k : ℕ). a % afresh level / size_of level * k) n.size in
      record {
        sum = omega (arith, h.sum);
        rest = some_size (level + 1) (omega arith);
        since = omega (arith, h.since, n.same);
      }

  -- It is one of the next level
  low_next : low_side (level + 1) a ≡ a
  low_next = at (next level coarsest finest)
    where
      at : HalvesSize level ⊎ Renews level → low_side (level + 1) a ≡ a
      at (inl n) = measured_side (level + 1) (omega arith) (a / afresh level) (2 * (a % afresh level / size_of level)) (halving_measured n)
      at (inr n) =
          measured_side (level + 1) (omega arith)
          (a / afresh level * (afresh level / afresh (level + 1)) + a % afresh level / size_of level) 0
          (renewed_measured n)

  -- A cell ends at or before the end of the cells of the next level around its low side
  high_start : high_side level a ≤ start_of (level + 1) a + afresh (level + 1)
  unfolding high_side
  high_start = at (next level coarsest finest)
    where
      at : HalvesSize level ⊎ Renews level
          → min (a + size_of level) (start_of level a + afresh level) ≤ start_of (level + 1) a + afresh (level + 1)
      at (inl n) =
          let same : start_of level a + afresh level ≡ start_of (level + 1) a + afresh (level + 1) =
          ap (λ (k : ℕ). a / k * k + k) n.same in
          omega arith
      at (inr n) = omega (arith, start_is (renewed_measured n), (renewed_measured n).sum, n.size)

  -- and at most two sizes of the next level after it
  high_twice : high_side level a ≤ a + 2 * size_of (level + 1)
  unfolding high_side
  high_twice = at (next level coarsest finest)
    where
      at : HalvesSize level ⊎ Renews level → min (a + size_of level) (start_of level a + afresh level) ≤ a + 2 * size_of (level + 1)
      at (inl n) = omega (arith, n.size)
      at (inr n) = omega (arith, n.half)

-- What each level hands on to the next, each level hands on to all finer ones
finer_so : (P : ℕ → Type 0) → ((n : ℕ) → coarsest_level ≤ n → n < finest_level → P n → P (n + 1)) → (level finer : ℕ) → coarsest_level ≤ level
    → level ≤ finer → finer ≤ finest_level → P level → P finer
finer_so P step level zero coarsest more finest p = let none : ⊥ = omega arith in absurd none
finer_so P step level (suc n) coarsest more finest p =
    at (λ l. finer_so P step level n coarsest l (omega arith) p) (eq-or-lt_of_le more)
  where
    at : (level ≤ n → P n) → (level ≡ suc n) ⊎ (level < suc n) → P (suc n)
    at before (inl e) = subst P e p
    at before (inr l) = subst P (omega arith) (step n (omega arith) (omega arith) (before (omega arith)))

-- A low side of a level is one of each finer level
pub low_finer : (level finer a : ℕ) → coarsest_level ≤ level → level ≤ finer → finer ≤ finest_level → low_side level a ≡ a → low_side finer a ≡ a
low_finer level finer a coarsest = finer_so (λ n. low_side n a ≡ a) (λ n low high is. low_next n low high is) level finer coarsest

module _ (level : ℕ) (coarsest : coarsest_level ≤ level) (finest : level < finest_level) {a b : ℕ} (s : Span level a b) where
  -- The high side is a low side of the next level
  high_next : low_side (level + 1) b ≡ b
  high_next =
      subst (λ (n : ℕ). low_side (level + 1) n ≡ n) (omega (arith, s.high))
      (low_next level coarsest finest (high_low level (omega arith) a s.low))

  -- The low half: it ends at or before the whole
  pub low_half : Span (level + 1) a (high_side (level + 1) a)
  low_half = record { low = low_next level coarsest finest s.low; high = refl }

  pub half_most : high_side (level + 1) a ≤ b
  half_most =
      none_between (level + 1) (omega arith) a b low_half.low high_next
      (omega (arith, s.high, low_below_high level a (omega arith)))

  -- The whole is halved there
  pub split_high : split_at (level + 1) a b ≡ high_side (level + 1) a
  unfolding high_side
  split_high = omega (arith, s.high, high_start level coarsest finest s.low, half_most)

  -- The high half, where there is one
  pub high_half : high_side (level + 1) a < b → Span (level + 1) (high_side (level + 1) a) b
  unfolding high_side
  high_half less =
      let l : IsLevel (level + 1) = omega arith in
      let h = side_measured (level + 1) l a low_half.low in
      let within : b ≤ start_of (level + 1) a + afresh (level + 1) = omega (arith, s.high, high_start level coarsest finest s.low) in
      let twice : b ≤ a + 2 * size_of (level + 1) = omega (arith, s.high, high_twice level coarsest finest s.low) in
      let one_more : high_side (level + 1) a ≡ a + size_of (level + 1) = omega arith in
      let t : Measured (level + 1) (high_side (level + 1) a) (a / afresh (level + 1)) (suc (a % afresh (level + 1) / size_of (level + 1))) 0 =
      record { sum = omega (arith, h.sum); rest = h.rest; since = omega (arith, h.sum) } in
      let low = high_low (level + 1) l a low_half.low in
      let most = none_between (level + 1) l (high_side (level + 1) a) b low high_next less in
      record { low = low; high = omega (arith, start_is t) }

  -- Cut ground that is not split
  pub whole_half : high_side (level + 1) a ≡ b → Span (level + 1) a b
  whole_half e = record { low = low_half.low; high = omega arith }

-- It is the size where whole cells leave nothing
pub narrow_size : (level : ℕ) → size_of level ≢ 0 → cut_of level ≡ 0 → narrowest level ≡ size_of level
unfolding narrowest
narrow_size level some none = rw (ne_eqb (size_of level) 0 some, eq-eqb (cut_of level) 0 none)

-- and else what they leave
pub narrow_cut : (level : ℕ) → size_of level ≢ 0 → cut_of level ≢ 0 → narrowest level ≡ cut_of level
unfolding narrowest
narrow_cut level some more = rw (ne_eqb (size_of level) 0 some, ne_eqb (cut_of level) 0 more)

-- No cell is narrower, cuts included
pub narrow_wide : (level a : ℕ) → IsLevel level → low_side level a ≡ a → narrowest level ≤ high_side level a - a
unfolding high_side narrowest
narrow_wide level a l is =
    let h = side_measured level l a is in
    let whole = div-add-mod' (afresh level) (size_of level) in
    let less = mod-lt (afresh level) (some_size level l) in
    let fewer : a % afresh level / size_of level < suc (afresh level / size_of level) =
    lt_of_mul-lt-mul_right (size_of level) (omega (arith, h.since)) in
    some (eqb (size_of level) 0) (λ e. eqb→eq (size_of level) 0 e) (at (eqb (cut_of level) 0) (eqb→eq (cut_of level) 0) (eq-or-lt_of_le (le_of_suc-le-suc fewer)))
  where
    wide : ℕ
    wide = min (a + size_of level) (start_of level a + afresh level) - a

    some : (b : Bool) → (T b → size_of level ≡ 0) → {n : ℕ} → n ≤ wide → cond b 0 n ≤ wide
    some true e h = omega arith
    some false e h = h

    at : (b : Bool) → (T b → cut_of level ≡ 0)
        → (a % afresh level / size_of level ≡ afresh level / size_of level) ⊎ (a % afresh level / size_of level < afresh level / size_of level)
        → cond b (size_of level) (cut_of level) ≤ wide
    at true none (inl e) =
        let h = side_measured level l a is in
        let whole = div-add-mod' (afresh level) (size_of level) in
        let same = ap (λ (n : ℕ). n * size_of level) e in
        let no : ⊥ = omega (arith, h.since, none tt) in
        absurd no
    at false none (inl e) =
        let h = side_measured level l a is in
        let whole = div-add-mod' (afresh level) (size_of level) in
        let less = mod-lt (afresh level) (some_size level l) in
        let same = ap (λ (n : ℕ). n * size_of level) e in
        omega (arith, h.sum)
    at true none (inr fewer) =
        let h = side_measured level l a is in
        let whole = div-add-mod' (afresh level) (size_of level) in
        omega (arith, h.sum, mul-le-mul_right (size_of level) fewer)
    at false none (inr fewer) =
        let h = side_measured level l a is in
        let whole = div-add-mod' (afresh level) (size_of level) in
        let less = mod-lt (afresh level) (some_size level l) in
        omega (arith, h.sum, mul-le-mul_right (size_of level) fewer)

-- A low side splits the cells of its level: each ends at or before it, or starts at or after it
pub split : (level at d : ℕ) → IsLevel level → low_side level at ≡ at → low_side level d ≡ d → (high_side level d ≤ at) ⊎ (at ≤ d)
split level at d l is js = by (leb at d) refl
  where
    by : (b : Bool) → leb at d ≡ b → (high_side level d ≤ at) ⊎ (at ≤ d)
    by true e = inr (leb-true at d e)
    by false e = inl (none_between level l d at js is (leb-false at d e))

-- Cells of the next level are no wider
narrow_next : (level : ℕ) → coarsest_level ≤ level → level < finest_level → narrowest (level + 1) ≤ narrowest level
unfolding narrowest size_of afresh
narrow_next level low high =
    leb→le (narrowest (level + 1)) (narrowest level) (at_level (λ n. leb (narrowest (n + 1)) (narrowest n)) finest_level tt level low high)

-- nor are those of each finer one
pub narrow_finer : (level finer : ℕ) → coarsest_level ≤ level → level ≤ finer → finer ≤ finest_level → narrowest finer ≤ narrowest level
narrow_finer level finer coarsest more finest =
    finer_so (λ n. narrowest n ≤ narrowest level) step level finer coarsest more finest (omega arith)
  where
    step : (n : ℕ) → coarsest_level ≤ n → n < finest_level → narrowest n ≤ narrowest level → narrowest (n + 1) ≤ narrowest level
    step n low high h = omega (arith, narrow_next n low high)

-- A length of ground in one direction that is halved: where the halves meet, and what they are
pub record Halved (level a b middle : ℕ) : Type 0 where
  pub low : a < middle
  pub high : middle < b
  pub first : Span (level + 1) a middle
  pub second : Span (level + 1) middle b

module _ (level : ℕ) (coarsest : coarsest_level ≤ level) (finest : level < finest_level) {a b middle : ℕ} (s : Span level a b)
    (e : middle ≡ split_at (level + 1) a b) where
  meets_at : middle ≡ high_side (level + 1) a
  meets_at = e ∙ split_high level coarsest finest s

  -- It is halved there, where that is not its end
  pub halved : (middle ≡ b → ⊥) → Halved level a b middle
  halved other =
      let most : middle ≤ b = subst (λ (x : ℕ). x ≤ b) (sym meets_at) (half_most level coarsest finest s) in
      let less : middle < b = below (eq-or-lt_of_le most) in
      record {
        low = subst (λ (x : ℕ). a < x) (sym meets_at) (low_below_high (level + 1) a (omega arith));
        high = less;
        first = subst (λ (x : ℕ). Span (level + 1) a x) (sym meets_at) (low_half level coarsest finest s);
        second = subst (λ (x : ℕ). Span (level + 1) x b) (sym meets_at)
            (high_half level coarsest finest s (subst (λ (x : ℕ). x < b) meets_at less));
      }
    where
      below : (middle ≡ b) ⊎ (middle < b) → middle < b
      below (inl k) = absurd (other k)
      below (inr k) = k

  -- and not halved where it is
  pub unhalved : middle ≡ b → Span (level + 1) a b
  unhalved same = whole_half level coarsest finest s (sym meets_at ∙ same)

-- Ground that is halved by latitude: where, and what its halves are
pub record LatHalves (level : ℕ) (r : Rectangle) (middle : Lat) : Type 0 where
  pub low : r.south.0 < middle.0
  pub high : middle.0 < r.north.0
  pub side : low_side (level + 1) middle.0 ≡ middle.0
  pub south : Ground (level + 1) level (south_of r middle)
  pub north : Ground (level + 1) level (north_of r middle)

module _ (level : ℕ) (coarsest : coarsest_level ≤ level) (finest : level < finest_level) {r : Rectangle} (g : Ground level level r) {middle : Lat}
    (e : middle.0 ≡ split_at (level + 1) r.south.0 r.north.0) where
  pub lat_halves : (middle.0 ≡ r.north.0 → ⊥) → LatHalves level r middle
  lat_halves other =
      let h = halved level coarsest finest g.lat e other in
      record {
        low = h.low;
        high = h.high;
        side = h.second.low;
        south = record { lat = h.first; lon = g.lon; north_end = omega (arith, h.high, g.north_end); east_end = g.east_end };
        north = record { lat = h.second; lon = g.lon; north_end = g.north_end; east_end = g.east_end };
      }

  pub lat_unhalved : middle.0 ≡ r.north.0 → Ground (level + 1) level r
  lat_unhalved same =
      record { lat = unhalved level coarsest finest g.lat e same; lon = g.lon; north_end = g.north_end; east_end = g.east_end }

-- and by longitude, after that
pub record LonHalves (level : ℕ) (r : Rectangle) (middle : Lon) : Type 0 where
  pub low : r.west.0 < middle.0
  pub high : middle.0 < r.east.0
  pub side : low_side (level + 1) middle.0 ≡ middle.0
  pub west : Ground (level + 1) (level + 1) (west_of r middle)
  pub east : Ground (level + 1) (level + 1) (east_of r middle)

module _ (level : ℕ) (coarsest : coarsest_level ≤ level) (finest : level < finest_level) {r : Rectangle} (g : Ground (level + 1) level r) {middle : Lon}
    (e : middle.0 ≡ split_at (level + 1) r.west.0 r.east.0) where
  pub lon_halves : (middle.0 ≡ r.east.0 → ⊥) → LonHalves level r middle
  lon_halves other =
      let h = halved level coarsest finest g.lon e other in
      record {
        low = h.low;
        high = h.high;
        side = h.second.low;
        west = record { lat = g.lat; lon = h.first; north_end = g.north_end; east_end = omega (arith, h.high, g.east_end) };
        east = record { lat = g.lat; lon = h.second; north_end = g.north_end; east_end = g.east_end };
      }

  pub lon_unhalved : middle.0 ≡ r.east.0 → Ground (level + 1) (level + 1) r
  lon_unhalved same =
      record { lat = g.lat; lon = unhalved level coarsest finest g.lon e same; north_end = g.north_end; east_end = g.east_end }
