-- The laws of a descent: the answer for ground that is a cell, the halves that follow, and the answers for them that make that for the whole.
-- Assumes nothing.
use Rattle.std.specs.Prelude.{ℕ, ◌+◌, ◌-◌, ◌/◌, ◌≤◌, ◌<◌, max, ◌≡◌, refl, ◌⊎◌, Bool, true, false, List, eqb, Option, Some}
use Rattle.std.proofs.Common.{eq-or-lt_of_le, arith, ap, subst₂, ◌∙◌, inl, inr, true≢false, eqb-true}
use Rattle.std.proofs.Math.Path.{sym, subst}
use Rattle.std.proofs.lemmas.Bool.{eqb-false}
use Rattle.facts.specs.Numbers.{either_way}
use Rattle.ground.specs.declared.Lat.{Lat}
use Rattle.ground.specs.declared.Lon.{Lon}
use Rattle.ground.specs.declared.Rectangle.{Rectangle}
use Rattle.ground.specs.declared.Cell.{Cell}
use Rattle.ground.specs.Levels.{lat_end, lon_end, IsLevel}
use Rattle.ground.specs.Rectangles.{Within, Wide, south_of, north_of, west_of, east_of}
use Rattle.ground.specs.RectanglesLaws.{within_self}
use Rattle.ground.specs.Cells.{low_side, high_side, sides_of, IsCell}
use Rattle.ground.proofs.CellsLaws.{low_below_high, cell_wide}
use Rattle.ground.proofs.SidesLaws.{none_between}
use Rattle.ground.specs.Halves.{Span, Ground, split_at, lat_split, lon_split}
use Rattle.ground.proofs.HalvesLaws.{LatHalves, lat_halves, lat_unhalved, LonHalves, lon_halves, lon_unhalved}
use Rattle.edge.specs.Edge.{Edge}
use Rattle.boundary.specs.Boundary.{unmet, ground_inside, inside}
use Rattle.boundary.proofs.InsideLaws.{inside_within}
use Rattle.quick.specs.declared.half.Half.{Half}
use Rattle.quick.specs.declared.half.Sought.{Sought}
use Rattle.quick.specs.Half.{Sound, part_of, StrictlyBetween, HoldsNone}
use Rattle.quick.specs.HalfLaws.{south_part, north_part, west_part, east_part, sound_part}
use Rattle.quick.specs.PassingLaws.{met_inside}
use Rattle.quick.specs.First.{Wanted, First, Past, settled_at}
use Rattle.quick.specs.FirstLaws.{first_stays, first_below, first_corner, first_lat, first_lon, past_within, past_first, settled_none, unsettled_ahead}
use Rattle.quick.specs.Descent.{Seeks, ByLat, ByLon}

-- The cell of a level with the south-west corner of a rectangle
abbrev pub cell_of : ℕ → Rectangle → Cell
cell_of level r = record { level = level; west = r.west; south = r.south }

module _ (es : List Edge) {level : ℕ} {r : Rectangle} (l : IsLevel level) (g : Ground level level r) where
  -- Ground that is a cell's of a level is the ground of that cell
  pub ground_cell : sides_of (cell_of level r) ≡ r
  unfolding sides_of
  ground_cell =
      λ i. record { west = r.west; east = record { 0 = sym g.lon.high i }; south = r.south; north = record { 0 = sym g.lat.high i } }

  pub cell_cell : IsCell (cell_of level r)
  unfolding sides_of
  cell_cell =
      record {
        level = l;
        west = g.lon.low;
        south = g.lat.low;
        east_end = subst (λ (n : ℕ). n ≤ lon_end) g.lon.high g.east_end;
        north_end = subst (λ (n : ℕ). n ≤ lat_end) g.lat.high g.north_end;
      }

  -- In one direction a cell of the level that lies in it starts where it does
  one_side : {a e d : ℕ} → Span level a e → low_side level d ≡ d → a ≤ d → high_side level d ≤ e → d ≡ a
  one_side {a} {e} {d} s is least most = at (eq-or-lt_of_le least)
    where
      at : (a ≡ d) ⊎ (a < d) → d ≡ a
      at (inl k) = sym k
      at (inr k) =
          let next : high_side level a ≤ d = none_between level l a d s.low is k in
          let none : ⊥ = omega (arith, s.high, low_below_high level d l) in
          absurd none

  -- so that it is that cell
  pub only_cell : (d : Cell) → Wanted es level level r d → d ≡ cell_of level r
  unfolding sides_of
  only_cell d w =
      let of : d.level ≡ level = omega (arith, w.least, w.most) in
      let west : d.west.0 ≡ r.west.0 =
      one_side g.lon (subst (λ (n : ℕ). low_side n d.west.0 ≡ d.west.0) of w.cell.west) w.lies.west
      (subst (λ (n : ℕ). high_side n d.west.0 ≤ r.east.0) of w.lies.east) in
      let south : d.south.0 ≡ r.south.0 =
      one_side g.lat (subst (λ (n : ℕ). low_side n d.south.0 ≡ d.south.0) of w.cell.south) w.lies.south
      (subst (λ (n : ℕ). high_side n d.south.0 ≤ r.north.0) of w.lies.north) in
      λ i. record { level = of i; west = record { 0 = west i }; south = record { 0 = south i } }

  -- What the boundary says of the ground it says of the cell
  pub cell_inside : {t : Bool} → ground_inside es r ≡ t → inside es (cell_of level r) ≡ t
  cell_inside e = ap (ground_inside es) ground_cell ∙ e

  -- Where an edge meets the ground, the level has none there
  pub no_cell_lem : unmet r es ≡ false → (d : Cell) → Wanted es level level r d → ⊥
  no_cell_lem e d w = true≢false (sym w.is ∙ ap (inside es) (only_cell d w) ∙ cell_inside (met_inside es r e))

-- Where what is sought is settled, what was found stays
pub settled_first : {es : List Edge} {s : Sought} {r : Rectangle} {from : ℕ} {found : Option Cell} → Seeks es s → Past found r
    → settled_at found r.west (max from s.coarsest) s.finest ≡ true → First es from s.finest r found found
settled_first {es} {s} {r} {from} {found} seeks past t =
    first_stays (λ d w h. settled_none found t past d w (least d w (either_way s.coarsest d.level)) h)
  where
    least : (d : Cell) → Wanted es from s.finest r d → (s.coarsest ≤ d.level) ⊎ (d.level < s.coarsest) → max from s.coarsest ≤ d.level
    least d w (inl h) = omega (arith, w.least)
    least d w (inr h) = absurd (seeks.none.none d w.cell w.is h)

-- and so over ground that holds no wanted cell
pub passed_first : {es : List Edge} {from finest : ℕ} {g : Rectangle} {found : Option Cell} → HoldsNone es finest g → First es from finest g found found
passed_first h = first_stays (λ d w k. h d w.cell w.most w.is w.lies)

module _ {es : List Edge} {room : List ℕ} {half : Half} {s : Sought} {left : ℕ} {found : Option Cell} (b : ByLat es room half s left found) where
  -- The level of halvings that are left is one of the levels
  lat_level : IsLevel (s.finest - left / 2)
  lat_level = omega (arith, b.coarsest, b.seeks.most)

  -- Ground that is inside is the answer
  pub lat_inside : ground_inside es half.ground ≡ true
      → settled_at found half.ground.west (max (s.finest - left / 2) s.coarsest) s.finest ≡ false
      → First es (s.finest - left / 2) s.finest half.ground found (Some (cell_of (s.finest - left / 2) half.ground))
  lat_inside e t =
      first_corner
      (record {
        cell = cell_cell es lat_level b.ground;
        least = omega arith;
        most = omega arith;
        is = cell_inside es lat_level b.ground e;
        lies = subst (λ (x : Rectangle). Within x half.ground) (sym (ground_cell es lat_level b.ground)) (within_self half.ground);
      })
      refl refl refl (unsettled_ahead (max (s.finest - left / 2) s.coarsest) s.finest found (cell_of (s.finest - left / 2) half.ground) t (omega arith))

  -- Else there is none where no halvings are left
  pub lat_end_lem : left ≡ 0 → unmet half.ground es ≡ false → First es (s.finest - left / 2) s.finest half.ground found found
  lat_end_lem none e =
      let same : s.finest ≡ s.finest - left / 2 = omega arith in
      first_stays (λ d w h. no_cell_lem es lat_level b.ground e d (subst (λ (n : ℕ). Wanted es (s.finest - left / 2) n half.ground d) same w))

  -- The same half with other edges
  pub lat_own : {later : List ℕ} {own : Half} → own.ground ≡ half.ground → Sound es later own → ByLat es later own s left found
  lat_own e sound =
      record {
        sound = sound;
        seeks = b.seeks;
        even = b.even;
        coarsest = b.coarsest;
        ground = subst (Ground (s.finest - left / 2) (s.finest - left / 2)) (sym e) b.ground;
        past = subst (Past found) (sym e) b.past;
      }

  module _ (some : (left ≡ 0 → ⊥)) where
    -- One halving less is left, and latitude is one level finer
    finer_lat : s.finest - left / 2 + 1 ≡ s.finest - (left - 1) / 2
    finer_lat = omega (arith, b.even, b.coarsest)

    same_lon : s.finest - left / 2 ≡ s.finest - (left - 1) / 2 - 1
    same_lon = omega (arith, b.even, b.coarsest)

    -- The descent that goes on by longitude
    lat_on : {later : List ℕ} {h : Half} {now : Option Cell} → Sound es later h → (ground : Ground (s.finest - left / 2 + 1) (s.finest - left / 2) h.ground)
        → Past now h.ground → ByLon es later h s (left - 1) now
    lat_on {later} {h} sound g past =
        record {
          sound = sound;
          seeks = b.seeks;
          odd = omega (arith, b.even);
          coarsest = omega (arith, b.even, b.coarsest);
          ground = subst₂ (λ (m n : ℕ). Ground m n h.ground) finer_lat same_lon g;
          past = past;
        }

    -- Ground that an edge meets has the answer of the finer levels
    pub lat_below : (a : Option Cell) → unmet half.ground es ≡ false → First es (s.finest - (left - 1) / 2) s.finest half.ground found a
        → First es (s.finest - left / 2) s.finest half.ground found a
    lat_below a e first =
        first_below a (no_cell_lem es lat_level b.ground e)
        (subst (λ (n : ℕ). First es n s.finest half.ground found a) (sym finer_lat) first)

    module _ {at : Lat} (is : at ≡ lat_split (s.finest - left / 2 + 1) half.ground) where
      -- Ground that is not split goes on as it is
      pub lat_whole : at.0 ≡ half.ground.north.0 → ByLon es room half s (left - 1) found
      lat_whole same =
          lat_on b.sound
          (lat_unhalved (s.finest - left / 2) (omega (arith, b.coarsest)) (omega (arith, b.even, b.seeks.most)) b.ground (ap (λ y. y.0) is) same)
          b.past

      module _ (other : at.0 ≡ half.ground.north.0 → ⊥) where
        lat_split_lem : LatHalves (s.finest - left / 2) half.ground at
        lat_split_lem =
            lat_halves (s.finest - left / 2) (omega (arith, b.coarsest)) (omega (arith, b.even, b.seeks.most)) b.ground (ap (λ y. y.0) is) other

        lat_between : StrictlyBetween half.ground.south.0 at.0 half.ground.north.0
        lat_between = record { above = lat_split_lem.low; below = lat_split_lem.high }

        -- The south half
        pub lat_south : ByLon es room (part_of half (south_of half.ground at)) s (left - 1) found
        lat_south =
            let part = south_part b.sound at lat_between in
            lat_on (sound_part b.sound part) lat_split_lem.south (past_within found (south_of half.ground at) half.ground part.within b.past)

        module _ {later : List ℕ} (kept : Sound es later half) (a : Option Cell)
            (first : First es (s.finest - (left - 1) / 2) s.finest (south_of half.ground at) found a) where
          -- The north half, past what is found in the south
          pub lat_north : ByLon es later (part_of half (north_of half.ground at)) s (left - 1) a
          lat_north =
              let part = north_part b.sound at lat_between in
              lat_on (sound_part kept part) lat_split_lem.north
              (past_first (north_of half.ground at) a (inl (omega arith)) first (past_within found (north_of half.ground at) half.ground part.within b.past))

          -- and the answer for both
          pub lat_joined : (c : Option Cell) → unmet half.ground es ≡ false
              → First es (s.finest - (left - 1) / 2) s.finest (north_of half.ground at) a c
              → First es (s.finest - left / 2) s.finest half.ground found c
          lat_joined c e second =
              lat_below c e
              (first_lat (omega (arith, b.coarsest)) half.ground a c at
              (subst (λ (n : ℕ). low_side n at.0 ≡ at.0) finer_lat lat_split_lem.side)
              (omega (arith, lat_split_lem.low)) (omega (arith, lat_split_lem.high)) first second)

module _ {es : List Edge} {room : List ℕ} {half : Half} {s : Sought} {left : ℕ} {found : Option Cell} (b : ByLon es room half s left found) where
  -- One halving less is left, and longitude is one level finer
  finer_lon : s.finest - left / 2 - 1 + 1 ≡ s.finest - left / 2
  finer_lon = omega (arith, b.coarsest)

  same_lat : s.finest - left / 2 ≡ s.finest - (left - 1) / 2
  same_lat = omega (arith, b.odd)

  lon_level : IsLevel (s.finest - left / 2)
  lon_level = omega (arith, b.coarsest, b.seeks.most)

  own : Ground (s.finest - left / 2 - 1 + 1) (s.finest - left / 2 - 1) half.ground
  own = subst (λ (n : ℕ). Ground n (s.finest - left / 2 - 1) half.ground) (sym finer_lon) b.ground

  -- The same half with another first edge
  pub lon_own : {later : List ℕ} {h : Half} → h.ground ≡ half.ground → Sound es later h → ByLon es later h s left found
  lon_own e sound =
      record {
        sound = sound;
        seeks = b.seeks;
        odd = b.odd;
        coarsest = b.coarsest;
        ground = subst (Ground (s.finest - left / 2) (s.finest - left / 2 - 1)) (sym e) b.ground;
        past = subst (Past found) (sym e) b.past;
      }

  -- The descent that goes on by latitude
  lon_on : {later : List ℕ} {h : Half} {now : Option Cell} → Sound es later h → Ground (s.finest - left / 2 - 1 + 1) (s.finest - left / 2 - 1 + 1) h.ground
      → Past now h.ground → ByLat es later h s (left - 1) now
  lon_on {later} {h} sound g past =
      record {
        sound = sound;
        seeks = b.seeks;
        even = omega (arith, b.odd);
        coarsest = omega (arith, b.odd, b.coarsest);
        ground = subst (λ (n : ℕ). Ground n n h.ground) (finer_lon ∙ same_lat) g;
        past = past;
      }

  module _ {at : Lon} (is : at ≡ lon_split (s.finest - left / 2) half.ground) where
    is_next : at.0 ≡ split_at (s.finest - left / 2 - 1 + 1) half.ground.west.0 half.ground.east.0
    is_next = ap (λ x. x.0) is ∙ ap (λ (n : ℕ). split_at n half.ground.west.0 half.ground.east.0) (sym finer_lon)

    -- Ground that is not split goes on as it is
    lon_unsplit : at.0 ≡ half.ground.east.0 → Ground (s.finest - left / 2 - 1 + 1) (s.finest - left / 2 - 1 + 1) half.ground
    lon_unsplit same = lon_unhalved (s.finest - left / 2 - 1) (omega (arith, b.coarsest)) (omega (arith, b.coarsest, b.seeks.most)) own is_next same

    pub lon_whole : at.0 ≡ half.ground.east.0 → ByLat es room half s (left - 1) found
    lon_whole same = lon_on b.sound (lon_unsplit same) b.past

    pub lon_same : (a : Option Cell) → First es (s.finest - (left - 1) / 2) s.finest half.ground found a
        → First es (s.finest - left / 2) s.finest half.ground found a
    lon_same a first = subst (λ (n : ℕ). First es n s.finest half.ground found a) (sym same_lat) first

    module _ (other : at.0 ≡ half.ground.east.0 → ⊥) where
      lon_split_lem : LonHalves (s.finest - left / 2 - 1) half.ground at
      lon_split_lem = lon_halves (s.finest - left / 2 - 1) (omega (arith, b.coarsest)) (omega (arith, b.coarsest, b.seeks.most)) own is_next other

      lon_between : StrictlyBetween half.ground.west.0 at.0 half.ground.east.0
      lon_between = record { above = lon_split_lem.low; below = lon_split_lem.high }

      -- The west half
      pub lon_west : ByLat es room (part_of half (west_of half.ground at)) s (left - 1) found
      lon_west =
          let part = west_part b.sound at lon_between in
          lon_on (sound_part b.sound part) lon_split_lem.west (past_within found (west_of half.ground at) half.ground part.within b.past)

      module _ {later : List ℕ} (kept : Sound es later half) (a : Option Cell)
          (first : First es (s.finest - (left - 1) / 2) s.finest (west_of half.ground at) found a) where
        -- The east half, past what is found in the west
        pub lon_east : ByLat es later (part_of half (east_of half.ground at)) s (left - 1) a
        lon_east =
            let part = east_part b.sound at lon_between in
            lon_on (sound_part kept part) lon_split_lem.east
            (past_first (east_of half.ground at) a (inr (omega arith)) first (past_within found (east_of half.ground at) half.ground part.within b.past))

        -- and the answer for both
        pub lon_joined : (c : Option Cell) → First es (s.finest - (left - 1) / 2) s.finest (east_of half.ground at) a c
            → First es (s.finest - left / 2) s.finest half.ground found c
        lon_joined c second =
            lon_same c
            (first_lon (omega (arith, b.coarsest)) half.ground a c at
            (subst (λ (n : ℕ). low_side n at.0 ≡ at.0) (finer_lon ∙ same_lat) lon_split_lem.side)
            (omega (arith, lon_split_lem.low)) (omega (arith, lon_split_lem.high)) first second)

  -- The part of ground that is inside where a cell of the next level stands
  lon_corner : (p : Rectangle) → Ground (s.finest - left / 2 - 1 + 1) (s.finest - left / 2 - 1 + 1) p → Within p half.ground
      → p.west ≡ half.ground.west → p.south ≡ half.ground.south → ground_inside es half.ground ≡ true
      → settled_at found half.ground.west (max (s.finest - left / 2) s.coarsest) s.finest ≡ false
      → First es (s.finest - left / 2) s.finest half.ground found (Some (cell_of (s.finest - left / 2) half.ground))
  lon_corner p g within west south e t =
      let own : Ground (s.finest - left / 2) (s.finest - left / 2) p = subst (λ (n : ℕ). Ground n n p) finer_lon g in
      let c : Cell = cell_of (s.finest - left / 2) p in
      let least : ℕ = max (s.finest - left / 2) s.coarsest in
      let same : c ≡ cell_of (s.finest - left / 2) half.ground = λ i. record { level = s.finest - left / 2; west = west i; south = south i } in
      let sides = ground_cell es lon_level own in
      let is = cell_cell es lon_level own in
      let wide = subst Wide sides (cell_wide c lon_level) in
      subst (λ (x : Cell). First es (s.finest - left / 2) s.finest half.ground found (Some x)) same
      (first_corner
      (record {
        cell = is;
        least = omega arith;
        most = omega arith;
        is = cell_inside es lon_level own (inside_within es half.ground e b.sound.closed wide within);
        lies = subst (λ (x : Rectangle). Within x half.ground) (sym sides) within;
      })
      refl (ap (λ x. x.0) west) (ap (λ y. y.0) south)
      (unsettled_ahead least s.finest found c (subst (λ (x : Lon). settled_at found x least s.finest ≡ false) (sym west) t) (omega arith)))

  -- Ground that is inside has the answer in its south-west corner
  pub lon_inside : ground_inside es half.ground ≡ true
      → settled_at found half.ground.west (max (s.finest - left / 2) s.coarsest) s.finest ≡ false
      → First es (s.finest - left / 2) s.finest half.ground found (Some (cell_of (s.finest - left / 2) half.ground))
  lon_inside e t = by (eqb at.0 half.ground.east.0) refl
    where
      at : Lon
      at = lon_split (s.finest - left / 2) half.ground

      by : (k : Bool) → eqb at.0 half.ground.east.0 ≡ k
          → First es (s.finest - left / 2) s.finest half.ground found (Some (cell_of (s.finest - left / 2) half.ground))
      by true k =
          let same = eqb-true at.0 half.ground.east.0 k in
          lon_corner half.ground (lon_unsplit refl same) (within_self half.ground) refl refl e t
      by false k =
          let other = eqb-false at.0 half.ground.east.0 k in
          lon_corner (west_of half.ground at) (lon_split_lem refl other).west (west_part b.sound at (lon_between refl other)).within refl refl e t
