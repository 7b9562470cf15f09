-- The laws of the search: levels that are too wide, the half that a descent starts from, the answers for the ground of a column and for all
-- ground, as the loops carry them on, and the chosen cell that they give. Assumes nothing.
use Rattle.std.specs.Prelude.{ℕ, ◌+◌, ◌-◌, ◌*◌, ◌/◌, ◌≤◌, ◌<◌, ◌≡◌, refl, ◌⊎◌, Bool, true, false, ◌||◌, List, ltb, Option, Some, None}
use Rattle.std.proofs.Common.{eq-or-lt_of_le, arith, sym, ap, subst, ◌∙◌, inl, inr, ltb-true}
use Rattle.facts.specs.Tests.{either, true_of, holds}
use Rattle.facts.specs.Numbers.{either_way}
use Rattle.facts.specs.Lists.{each_so}
use Rattle.ground.specs.declared.Lon.{Lon}
use Rattle.ground.specs.declared.Rectangle.{Rectangle}
use Rattle.ground.specs.declared.Cell.{Cell}
use Rattle.angles.specs.Angles.{distance}
use Rattle.ground.specs.Levels.{lat, lon, lat_end, lon_end, coarsest_level, finest_level, IsLevel}
use Rattle.ground.specs.Rectangles.{Within, at}
use Rattle.ground.specs.Cells.{low_side, high_side, sides_of, IsCell}
use Rattle.ground.proofs.CellsLaws.{low_below_high, cell_wide}
use Rattle.ground.proofs.SidesLaws.{low_most, low_low, high_low, side_end}
use Rattle.ground.specs.Halves.{Ground, narrowest}
use Rattle.ground.proofs.HalvesLaws.{narrow_wide}
use Rattle.edge.specs.Edge.{Edge}
use Rattle.boundary.specs.Boundary.{inside}
use Rattle.boundary.specs.Closed.{north_apart}
use Rattle.boundary.specs.Keeps.{Keeps, keeps_all}
use Rattle.chosen.specs.Chosen.{choose, Over}
use Rattle.chosen.proofs.ChosenLaws.{chosen_choose, none_choose}
use Rattle.chosen.specs.InExtents.{in_extents}
use Rattle.quick.specs.declared.half.Half.{Half}
use Rattle.quick.specs.declared.half.Sought.{Sought}
use Rattle.quick.specs.Half.{kept_in, Sound, AllIn}
use Rattle.quick.specs.First.{Wanted, Gained, First, Past}
use Rattle.quick.specs.FirstLaws.{before_most, first_stays, first_all, first_lat, first_lon, past_first}
use Rattle.quick.specs.Descent.{Seeks, ByLat, Levels, column, everywhere, too_wide, TooWideBefore, NoneCoarser}

-- An answer of two tests in turn: the first where it holds
pub or_first : {w a : Bool} (b : Bool) → w ≡ a → w ≡ true → w ≡ (a || b)
or_first b is t = t ∙ sym (ap (λ (x : Bool). x || b) (sym is ∙ t))

-- else the second
pub or_second : {v w a b : Bool} → v ≡ a → v ≡ false → w ≡ b → w ≡ (a || b)
or_second {b = b} is f e = e ∙ sym (ap (λ (x : Bool). x || b) (sym is ∙ f))

-- At first there is no level before
pub wide_begin : (r : Rectangle) → TooWideBefore r coarsest_level
wide_begin r n less least = let none : ⊥ = omega arith in absurd none

-- One more level that is too wide
pub wide_again : (r : Rectangle) {level : ℕ} → TooWideBefore r level → too_wide r level ≡ true → TooWideBefore r (level + 1)
wide_again r {level} before wide n less least =
    let most : n ≤ level = omega arith in
    at (eq-or-lt_of_le most)
  where
    at : (n ≡ level) ⊎ (n < level) → too_wide r n ≡ true
    at (inl e) = subst (λ (m : ℕ). too_wide r m ≡ true) (sym e) wide
    at (inr l) = before n l least

-- A cell of a level that is too wide is not inside
pub wide_none : {r : Rectangle} {es : List Edge} → Over r es → (d : Cell) → IsCell d → inside es d ≡ true
    → too_wide r d.level ≡ true → ⊥
unfolding sides_of
wide_none {r} {es} o d is t wide =
    by
    (either (ltb (distance r.west.0 r.east.0) (narrowest d.level))
    (ltb (distance r.south.0 r.north.0) (narrowest d.level)) wide)
  where
    w : Within (sides_of d) r
    w = in_extents o d is t

    by : (ltb (distance r.west.0 r.east.0) (narrowest d.level) ≡ true)
        ⊎ (ltb (distance r.south.0 r.north.0) (narrowest d.level) ≡ true) → ⊥
    by (inl e) =
        omega (
          arith,
          ltb-true (distance r.west.0 r.east.0) (narrowest d.level) e,
          narrow_wide d.level d.west.0 is.level is.west,
          w.west,
          w.east,
        )
    by (inr e) =
        omega (
          arith,
          ltb-true (distance r.south.0 r.north.0) (narrowest d.level) e,
          narrow_wide d.level d.south.0 is.level is.south,
          w.south,
          w.north,
        )

-- Two halvings a level lead down from the level to start from
pub two_each : {finest top : ℕ} → Levels finest top → finest - 2 * (finest - top) / 2 ≡ top
two_each l = omega (arith, l.below)

-- The half that a descent starts from: all edges, and a corner of the extents that every corner is at or below
abbrev pub top_half : ℕ → Rectangle → (ground : Rectangle) → Half
top_half count r ground =
    record { ground = ground; corner = at r.north r.west; odd = false; east = lon (lon_end + 1); from = 0; first = 0; to = count }

module _ {es : List Edge} {room : List ℕ} {count : ℕ} (all : AllIn es room count) {s : Sought} (seeks : Seeks es s) {top : ℕ} (l : IsLevel top)
    {cell : Rectangle} (g : Ground top top cell) where
  -- What is known of it is so
  sound_all : Sound es room (top_half count s.extents cell)
  sound_all =
      record {
        closed = o.closed;
        wide = record {
          across = omega (arith, g.lon.high, low_below_high top cell.west.0 l);
          up = omega (arith, g.lat.high, low_below_high top cell.south.0 l);
        };
        around = around;
        within = omega (arith, g.east_end, g.north_end);
        lies = omega (arith, o.order.across, o.order.up, o.east_end, o.north_end);
        east = refl;
        kept = record { keeps = keeps around; first = omega arith; last = all.fits };
        asked = keeps cell;
        odd = sym (north_apart (at s.extents.north s.extents.west) o.closed (each_so (λ e h. (h.0.north, h.1.north)) es o.held));
      }
    where
      o : Over s.extents es
      o = seeks.over

      around : Rectangle
      around = record { west = lon 0; east = lon (lon_end + 1); south = lat 0; north = lat (lat_end + 1) }

      keeps : (r : Rectangle) → Keeps es r (kept_in room 0 count)
      keeps r = subst (Keeps es r) (sym all.all) (keeps_all es r)

  -- and so is what the descent is asked
  pub by_lat_all : {found : Option Cell} → Levels s.finest top → Past found cell
      → ByLat es room (top_half count s.extents cell) s (2 * (s.finest - top)) found
  by_lat_all h past =
      record {
        sound = sound_all;
        seeks = seeks;
        even = omega arith;
        coarsest = omega (arith, h.coarsest, h.below);
        ground = subst (λ (n : ℕ). Ground n n cell) (sym (two_each h)) g;
        past = past;
      }

-- The ground between two longitudes and two latitudes
abbrev pub stretch : Lon → Lon → ℕ → ℕ → Rectangle
stretch west east from south = record { west = west; east = east; south = lat from; north = lat south }

-- The column has been searched from a latitude up to a south side
pub record UpTo (es : List Edge) (finest top : ℕ) (west east : Lon) (from south : ℕ) (before found : Option Cell) : Type 0 where
  pub is : low_side top south ≡ south
  pub least : from ≤ south
  pub most : south ≤ lat_end
  pub first : First es top finest (stretch west east from south) before found

-- The level to start from is a level
pub top_level : {finest top : ℕ} → Levels finest top → IsLevel top
top_level l = omega (arith, l.coarsest, l.below, l.most)

module _ {r : Rectangle} {es : List Edge} (o : Over r es) {finest top : ℕ} (l : Levels finest top) where
  -- A cell that starts before the ground's north or east end ends within the range
  pub north_most : {south : ℕ} → low_side top south ≡ south → south < r.north.0 → high_side top south ≤ lat_end
  north_most is less = side_end top (top_level l) 90 is less o.north_end

  pub east_most : {west : ℕ} → low_side top west ≡ west → west < r.east.0 → high_side top west ≤ lon_end
  east_most is less = side_end top (top_level l) 180 is less o.east_end

  -- At first nothing has been searched
  pub column_begin : (west east : Lon) {south : ℕ} {before : Option Cell} → south ≡ low_side top r.south.0
      → UpTo es finest top west east south south before before
  column_begin west east {south} e =
      record {
        is = subst (λ (n : ℕ). low_side top n ≡ n) (sym e) (low_low top (top_level l) r.south.0);
        least = omega arith;
        most = omega (arith, low_most top (top_level l) r.south.0, o.order.up, o.north_end);
        first = first_stays (λ d w h. omega (arith, (cell_wide d w.cell.level).up, w.lies.south, w.lies.north));
      }

  module _ {west east : Lon} {from south : ℕ} {before found : Option Cell} (s : UpTo es finest top west east from south before found) where
    -- The next cell is past what is found
    pub column_past : (north : ℕ) → Past before (column west east) → Past found (stretch west east south north)
    column_past north past =
        past_first (stretch west east south north) found (inl (omega arith)) s.first (west_past before past)
      where
        west_past : (before : Option Cell) → Past before (column west east) → Past before (stretch west east south north)
        west_past (Some c) (inl h) = inl h
        west_past (Some c) (inr h) = let none : ⊥ = omega arith in absurd none
        west_past None h = tt

    -- One more cell
    pub column_again : {north : ℕ} (next : Option Cell) → south < r.north.0 → north ≡ high_side top south
        → First es top finest (stretch west east south north) found next → UpTo es finest top west east from north before next
    column_again {north} next less e first =
        let more : south < north = omega (arith, low_below_high top south (top_level l)) in
        record {
          is = subst (λ (n : ℕ). low_side top n ≡ n) (sym e) (high_low top (top_level l) south s.is);
          least = omega (arith, s.least);
          most = omega (arith, north_most s.is less);
          first = first_lat l.coarsest (stretch west east from north) found next (lat south) s.is s.least (omega arith) s.first first;
        }

    -- At the end the ground has been searched
    pub column_end : from ≡ low_side top r.south.0 → r.north.0 ≤ south → First es top finest (column west east) before found
    column_end e past =
        first_all found (record { west = omega arith; east = omega arith; south = omega arith; north = s.most })
        (λ d w.
        let i = in_extents o d w.cell w.is in
        record {
          west = w.lies.west;
          east = w.lies.east;
          south = omega (arith, low_most top (top_level l) r.south.0, i.south);
          north = omega (arith, i.north);
        })
        s.first

-- A cell that is found is somewhere
found_somewhere : {c : Cell} → Some c ≡ None → ⊥
found_somewhere e = subst (λ (x : Option Cell). some x) e tt
  where
    some : Option Cell → Type 0
    some (Some c) = Unit {0}
    some None = ⊥

-- The ground has been searched from the range's start to a west side
pub record EastTo (es : List Edge) (finest top west : ℕ) (found : Option Cell) : Type 0 where
  pub is : low_side top west ≡ west
  pub most : west ≤ lon_end
  pub first : First es top finest (column (lon 0) (lon west)) None found

module _ {r : Rectangle} {es : List Edge} (o : Over r es) {finest top : ℕ} (l : Levels finest top) where
  -- At first, before the extents, there is nothing to find
  pub east_begin : {west : ℕ} → west ≡ low_side top r.west.0 → EastTo es finest top west None
  east_begin {west} e =
      let least = low_most top (top_level l) r.west.0 in
      record {
        is = subst (λ (n : ℕ). low_side top n ≡ n) (sym e) (low_low top (top_level l) r.west.0);
        most = omega (arith, o.order.across, o.east_end);
        first = first_stays (λ d w h. omega (arith, (cell_wide d w.cell.level).across, (in_extents o d w.cell w.is).west, w.lies.east));
      }

  module _ {west : ℕ} {found : Option Cell} (s : EastTo es finest top west found) where
    -- The next column is past what is found
    pub east_past : (east : Lon) → Past found (column (lon west) east)
    east_past east = past_first (column (lon west) east) found (inr (omega arith)) s.first tt

    -- One more column
    pub east_again : {east : ℕ} (next : Option Cell) → west < r.east.0 → east ≡ high_side top west
        → First es top finest (column (lon west) (lon east)) found next → EastTo es finest top east next
    east_again {east} next less e first =
        let more : west < east = omega (arith, low_below_high top west (top_level l)) in
        record {
          is = subst (λ (n : ℕ). low_side top n ≡ n) (sym e) (high_low top (top_level l) west s.is);
          most = omega (arith, east_most o l s.is less);
          first = first_lon l.coarsest (column (lon 0) (lon east)) found next (lon west) s.is (omega arith) (omega arith) s.first first;
        }

    -- At the end the ground has been searched
    pub east_end : r.east.0 ≤ west → First es top finest everywhere None found
    east_end past =
        first_all found (record { west = omega arith; east = s.most; south = omega arith; north = omega arith })
        (λ d w.
        record {
          west = omega arith;
          east = omega (arith, (in_extents o d w.cell w.is).east);
          south = w.lies.south;
          north = w.lies.north;
        })
        s.first

module _ {r : Rectangle} {es : List Edge} (o : Over r es) where
  -- No cell of the levels that are too wide is inside
  pub levels_begin : {level : ℕ} → (coarsest_level ≤ level) × (level ≤ finest_level + 1) → TooWideBefore r level → NoneCoarser es level
  levels_begin h unfit =
      record {
        coarsest = h.0;
        finest = h.1;
        none = λ d is t less. wide_none o d is t (unfit d.level less is.level.coarsest);
      }

  -- What is sought from such a level on is so
  pub seeks_begin : {level finest least : ℕ} → NoneCoarser es level → (level ≤ finest) × (finest ≤ finest_level) → least ≡ narrowest finest
      → Seeks es (record { extents = r; coarsest = level; finest = finest; least = least })
  seeks_begin none h e = record { over = o; none = none; most = h.1; least = e }

  -- Where none of a level up to 27 is, there is no chosen cell
  pub levels_end : {level : ℕ} → NoneCoarser es level → finest_level < level → choose r es ≡ None
  levels_end s past = none_choose o λ d is t. s.none d is (true_of (inside es d) t) (omega (arith, is.level.finest))

  module _ {level finest top : ℕ} (s : NoneCoarser es level) (l : Levels finest top) (starts : top ≤ level) where
    -- An inside cell up to the finest level is wanted, as none is of a level before those that are searched
    inside_wanted : (d : Cell) → IsCell d → inside es d ≡ true → d.level ≤ finest → Wanted es top finest everywhere d
    inside_wanted d is t most = at (either_way level d.level)
      where
        at : (level ≤ d.level) ⊎ (d.level < level) → Wanted es top finest everywhere d
        at (inl h) =
            record {
              cell = is;
              least = omega arith;
              most = most;
              is = t;
              lies = record { west = omega arith; east = is.east_end; south = omega arith; north = is.north_end };
            }
        at (inr h) = absurd (s.none d is t h)

    -- A cell found is the chosen one
    pub levels_found : {found : Option Cell} {c : Cell} → First es top finest everywhere None found → found ≡ Some c
        → choose r es ≡ Some c
    levels_found {found} {c} first is = by f.origin
      where
        f : First es top finest everywhere None (Some c)
        f = subst (First es top finest everywhere None) is first

        by : (Some c ≡ None) ⊎ Gained es top finest everywhere None (Some c) → choose r es ≡ Some c
        by (inl e) = absurd (found_somewhere e)
        by (inr g) =
            chosen_choose o
            (record {
              cell = g.0.cell;
              within = holds g.0.is;
              first = λ d k t h. f.none d (inside_wanted d k (true_of (inside es d) t) (omega (arith, before_most d c h, g.0.most))) h;
            })

    -- Else no cell of a level up to the finest is inside
    pub levels_again : {found : Option Cell} → First es top finest everywhere None found → found ≡ None → NoneCoarser es (finest + 1)
    levels_again {found} first is =
        let f : First es top finest everywhere None None = subst (First es top finest everywhere None) is first in
        record {
          coarsest = omega (arith, l.coarsest, l.below);
          finest = omega (arith, l.most);
          none = λ d k t h. f.none d (inside_wanted d k t (omega arith)) tt;
        }
