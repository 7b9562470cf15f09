-- The laws of the first: when what was found stays, when a cell takes its place, and how the answers for parts of ground make that for the
-- whole. Assumes nothing.
use Rattle.std.specs.Prelude.{ℕ, ◌+◌, ◌≤◌, ◌<◌, ◌≡◌, refl, ◌⊎◌, Bool, true, false, cond, List, leb, ltb, Option, Some, None}
use Rattle.std.proofs.Common.{arith, sym, ◌∙◌, leb-true, leb-false, ltb-true, ltb-false}
use Rattle.std.proofs.Math.Path.{subst}
use Rattle.std.proofs.Math.Logic.{inl, inr}
use Rattle.facts.specs.Numbers.{either_way}
use Rattle.ground.specs.declared.Lat.{Lat}
use Rattle.ground.specs.declared.Lon.{Lon}
use Rattle.ground.specs.declared.Rectangle.{Rectangle}
use Rattle.ground.specs.declared.Cell.{Cell}
use Rattle.ground.specs.Levels.{coarsest_level}
use Rattle.ground.specs.Rectangles.{Within, south_of, north_of, west_of, east_of}
use Rattle.ground.specs.Cells.{low_side, high_side, sides_of}
use Rattle.ground.proofs.CellsLaws.{cell_wide}
use Rattle.ground.proofs.HalvesLaws.{split, low_finer}
use Rattle.edge.specs.Edge.{Edge}
use Rattle.chosen.specs.Chosen.{Before}
use Rattle.quick.specs.First.{Wanted, Ahead, Gained, First, Past, settled_at}

-- What is before a cell is of no finer level
pub before_most : (x c : Cell) → Before x c → x.level ≤ c.level
before_most x c (inl h) = omega arith
before_most x c (inr (e, h)) = omega arith

-- and before what comes after that cell
before_then : (x d c : Cell) → Before x d → Before d c → Before x c
before_then x d c (inl h) l = let most = before_most d c l in inl (omega arith)
before_then x d c (inr (e, h)) (inl l) = inl (omega arith)
before_then x d c (inr (e, inl h)) (inr (f, inl l)) = inr (e ∙ f, inl (omega arith))
before_then x d c (inr (e, inl h)) (inr (f, inr (k, l))) = inr (e ∙ f, inl (omega arith))
before_then x d c (inr (e, inr (k, h))) (inr (f, inl l)) = inr (e ∙ f, inl (omega arith))
before_then x d c (inr (e, inr (k, h))) (inr (f, inr (m, l))) = inr (e ∙ f, inr (k ∙ m, omega arith))

-- What comes before a cell comes before what that comes before
ahead_then : (found : Option Cell) (d c : Cell) → Before d c → Ahead c found → Ahead d found
ahead_then (Some e) d c h k = before_then d c e h k
ahead_then None d c h k = tt

module _ {es : List Edge} {from : ℕ} where
  -- A wanted cell of a part is one of the whole
  pub wanted_within : {finest : ℕ} {r s : Rectangle} {c : Cell} → Within r s → Wanted es from finest r c → Wanted es from finest s c
  wanted_within h w =
      record {
        cell = w.cell;
        least = w.least;
        most = w.most;
        is = w.is;
        lies = omega (arith, h.west, h.east, h.south, h.north, w.lies.west, w.lies.east, w.lies.south, w.lies.north);
      }

  -- and one of the whole that lies in a part is one of the part
  pub wanted_part : {finest : ℕ} {r s : Rectangle} {c : Cell} → Wanted es from finest s c → Within (sides_of c) r → Wanted es from finest r c
  wanted_part w lies = record { cell = w.cell; least = w.least; most = w.most; is = w.is; lies = lies }

-- What is gained in a part is gained in the whole
gained_within : (es : List Edge) (from finest : ℕ) (r s : Rectangle) (found answer : Option Cell) → Within r s → Gained es from finest r found answer
    → Gained es from finest s found answer
gained_within es from finest r s found (Some c) h g = (wanted_within h g.0, g.1)
gained_within es from finest r s found None h g = elim g [ ]

module _ {es : List Edge} {from finest : ℕ} where
  -- What was found stays where no wanted cell comes before it
  pub first_stays : {r : Rectangle} {found : Option Cell} → ((d : Cell) → Wanted es from finest r d → Ahead d found → ⊥)
      → First es from finest r found found
  first_stays none = record { origin = inl refl; none = none }

  -- The answer for ground that holds every wanted cell of a larger one is the answer for that
  pub first_all : {r s : Rectangle} {found : Option Cell} (answer : Option Cell) → Within r s
      → ((d : Cell) → Wanted es from finest s d → Within (sides_of d) r) → First es from finest r found answer
      → First es from finest s found answer
  first_all {r} {s} {found} answer h all f =
      record { origin = by f.origin; none = λ d w. f.none d (wanted_part w (all d w)) }
    where
      by : (answer ≡ found) ⊎ Gained es from finest r found answer → (answer ≡ found) ⊎ Gained es from finest s found answer
      by (inl e) = inl e
      by (inr g) = inr (gained_within es from finest r s found answer h g)

  -- The answer for one part, handed to the other, gives that for the whole
  pub first_both : {r p q : Rectangle} → Within p r → Within q r
      → ((d : Cell) → Wanted es from finest r d → (Within (sides_of d) p) ⊎ (Within (sides_of d) q)) → {found : Option Cell} (a b : Option Cell)
      → First es from finest p found a → First es from finest q a b → First es from finest r found b
  first_both {r} {p} {q} hp hq all {found} a b f g = record { origin = origin a b f.origin g.origin; none = λ d w h. none d w h (all d w) }
    where
      gained : (a b : Option Cell) → Gained es from finest p found a → Gained es from finest q a b → Gained es from finest r found b
      gained (Some c) (Some d) j k = (wanted_within hq k.0, ahead_then found d c k.1 j.1)
      gained (Some c) None j k = elim k [ ]
      gained None _ j k = elim j [ ]

      origin : (a b : Option Cell) → (a ≡ found) ⊎ Gained es from finest p found a → (b ≡ a) ⊎ Gained es from finest q a b
          → (b ≡ found) ⊎ Gained es from finest r found b
      origin a b (inl e) (inl k) = inl (k ∙ e)
      origin a b (inl e) (inr k) = inr (gained_within es from finest q r found b hq (subst (λ (x : Option Cell). Gained es from finest q x b) e k))
      origin a b (inr j) (inl k) = inr (subst (Gained es from finest r found) (sym k) (gained_within es from finest p r found a hp j))
      origin a b (inr j) (inr k) = inr (gained a b j k)

      -- what comes before the second answer comes before the first
      ahead : (a b : Option Cell) (d : Cell) → (b ≡ a) ⊎ Gained es from finest q a b → Ahead d b → Ahead d a
      ahead a b d (inl k) h = subst (Ahead d) k h
      ahead a (Some e) d (inr k) h = ahead_then a d e h k.1
      ahead a None d (inr k) h = elim k [ ]

      none : (d : Cell) → Wanted es from finest r d → Ahead d b → (Within (sides_of d) p) ⊎ (Within (sides_of d) q) → ⊥
      none d w h (inl l) = f.none d (wanted_part w l) (ahead a b d g.origin h)
      none d w h (inr l) = g.none d (wanted_part w l) h

  -- Where there is none of the coarsest level, the answer is that for the finer ones
  pub first_below : {r : Rectangle} {found : Option Cell} (answer : Option Cell) → ((d : Cell) → Wanted es from from r d → ⊥)
      → First es (from + 1) finest r found answer → First es from finest r found answer
  first_below {r} {found} answer none f = record { origin = by answer f.origin; none = λ d w. f.none d (finer d w) }
    where
      finer : (d : Cell) → Wanted es from finest r d → Wanted es (from + 1) finest r d
      finer d w = at (either_way d.level from)
        where
          at : (d.level ≤ from) ⊎ (from < d.level) → Wanted es (from + 1) finest r d
          at (inl h) = absurd (none d (record { cell = w.cell; least = w.least; most = h; is = w.is; lies = w.lies }))
          at (inr h) = record { cell = w.cell; least = omega arith; most = w.most; is = w.is; lies = w.lies }

      by : (answer : Option Cell) → (answer ≡ found) ⊎ Gained es (from + 1) finest r found answer
          → (answer ≡ found) ⊎ Gained es from finest r found answer
      by answer (inl e) = inl e
      by (Some c) (inr g) = inr (
        record { cell = g.0.cell; least = omega (arith, g.0.least); most = g.0.most; is = g.0.is; lies = g.0.lies },
        g.1,
      )
      by None (inr g) = elim g [ ]

  -- A wanted cell of the coarsest level with the ground's own south-west corner is the answer, where it comes before what was found
  pub first_corner : {r : Rectangle} {found : Option Cell} {c : Cell} → Wanted es from finest r c → c.level ≡ from → c.west.0 ≡ r.west.0
      → c.south.0 ≡ r.south.0 → Ahead c found → First es from finest r found (Some c)
  unfolding sides_of
  first_corner {r} {found} {c} w level west south ahead = record { origin = inr (w, ahead); none = none }
    where
      none : (d : Cell) → Wanted es from finest r d → Before d c → ⊥
      none d v (inl h) = omega (arith, v.least)
      none d v (inr (e, inl h)) = omega (arith, v.lies.west)
      none d v (inr (e, inr (k, h))) = omega (arith, v.lies.south)

  -- Ground north or east of a part is past what is found there, if past what was found before
  pub past_first : {p : Rectangle} (q : Rectangle) {found : Option Cell} (answer : Option Cell) → (p.north.0 ≤ q.south.0) ⊎ (p.east.0 ≤ q.west.0)
      → First es from finest p found answer → Past found q → Past answer q
  unfolding sides_of
  past_first {p} q {found} answer apart f past = by answer apart f.origin
    where
      by : (answer : Option Cell) → (p.north.0 ≤ q.south.0) ⊎ (p.east.0 ≤ q.west.0)
          → (answer ≡ found) ⊎ Gained es from finest p found answer → Past answer q
      by answer apart (inl e) = subst (λ (x : Option Cell). Past x q) (sym e) past
      by (Some c) (inl h) (inr g) = inr (omega (arith, (cell_wide c g.0.cell.level).up, g.0.lies.north))
      by (Some c) (inr h) (inr g) = inl (omega (arith, (cell_wide c g.0.cell.level).across, g.0.lies.east))
      by None apart (inr g) = elim g [ ]

-- Ground that is past what is found is so in each part
pub past_within : (found : Option Cell) (r s : Rectangle) → Within r s → Past found s → Past found r
past_within (Some c) r s h (inl p) = inl (omega (arith, h.west))
past_within (Some c) r s h (inr p) = inr (omega (arith, h.south))
past_within None r s h p = tt

-- Where the search is settled, no wanted cell comes before what is found
pub settled_none : {es : List Edge} {from finest least : ℕ} {r : Rectangle} (found : Option Cell) → settled_at found r.west least finest ≡ true
    → Past found r → (d : Cell) → Wanted es from finest r d → least ≤ d.level → Ahead d found → ⊥
unfolding sides_of
settled_none {es} {from} {finest} {least} {r} (Some c) t past d w more h = at (ltb r.west.0 c.west.0) refl t h
  where
    last : Past (Some c) r → c.west.0 ≡ d.west.0 → d.south.0 < c.south.0 → ⊥
    last (inl p) e k = omega (arith, w.lies.west)
    last (inr p) e k = omega (arith, w.lies.south)

    at : (b : Bool) → ltb r.west.0 c.west.0 ≡ b → cond b (ltb c.level least) (leb c.level least) ≡ true → Before d c → ⊥
    at true e s (inl k) = omega (arith, ltb-true c.level least s)
    at true e s (inr (l, k)) = omega (arith, ltb-true c.level least s)
    at false e s (inl k) = omega (arith, leb-true c.level least s)
    at false e s (inr (l, inl k)) = omega (arith, ltb-false r.west.0 c.west.0 e, w.lies.west)
    at false e s (inr (l, inr (m, k))) = last past (sym m) k
settled_none {finest = finest} {least} None t past d w more h = omega (arith, ltb-true finest least t, w.most)

-- and where it is not, a cell of a level up to the least that is wanted does
pub unsettled_ahead : (least finest : ℕ) (found : Option Cell) (c : Cell) → settled_at found c.west least finest ≡ false → c.level ≤ least
    → Ahead c found
unsettled_ahead least finest (Some e) c t most = at (ltb c.west.0 e.west.0) refl t
  where
    at : (b : Bool) → ltb c.west.0 e.west.0 ≡ b → cond b (ltb e.level least) (leb e.level least) ≡ false → Before c e
    at true k s = by (either_way e.level c.level)
      where
        by : (e.level ≤ c.level) ⊎ (c.level < e.level) → Before c e
        by (inl l) = inr (omega (arith, ltb-false e.level least s), inl (ltb-true c.west.0 e.west.0 k))
        by (inr l) = inl l
    at false k s = inl (omega (arith, leb-false e.level least s))
unsettled_ahead least finest None c t most = tt

-- A low side of the coarsest level is one of each wanted cell's level
wanted_side : {es : List Edge} {from finest : ℕ} {r : Rectangle} (d : Cell) → coarsest_level ≤ from → {a : ℕ} → low_side from a ≡ a
    → Wanted es from finest r d → low_side d.level a ≡ a
wanted_side {from = from} d coarsest {a} is w = low_finer from d.level a coarsest w.least w.cell.level.finest is

module _ {es : List Edge} {from finest : ℕ} (coarsest : coarsest_level ≤ from) (r : Rectangle) {found : Option Cell} (a b : Option Cell) where
  -- South and north of a latitude that is a low side of the coarsest level
  pub first_lat : (at : Lat) → low_side from at.0 ≡ at.0 → r.south.0 ≤ at.0 → at.0 ≤ r.north.0
      → First es from finest (south_of r at) found a → First es from finest (north_of r at) a b → First es from finest r found b
  unfolding sides_of
  first_lat at is low high =
      first_both (omega arith) (omega arith)
      (λ d w. by d w (split d.level at.0 d.south.0 w.cell.level (wanted_side d coarsest is w) w.cell.south)) a b
    where
      by : (d : Cell) → Wanted es from finest r d → (high_side d.level d.south.0 ≤ at.0) ⊎ (at.0 ≤ d.south.0)
          → (Within (sides_of d) (south_of r at)) ⊎ (Within (sides_of d) (north_of r at))
      by d w (inl h) = inl (record { west = w.lies.west; east = w.lies.east; south = w.lies.south; north = h })
      by d w (inr h) = inr (record { west = w.lies.west; east = w.lies.east; south = h; north = w.lies.north })

  -- and west and east of such a longitude
  pub first_lon : (at : Lon) → low_side from at.0 ≡ at.0 → r.west.0 ≤ at.0 → at.0 ≤ r.east.0
      → First es from finest (west_of r at) found a → First es from finest (east_of r at) a b → First es from finest r found b
  unfolding sides_of
  first_lon at is low high =
      first_both (omega arith) (omega arith)
      (λ d w. by d w (split d.level at.0 d.west.0 w.cell.level (wanted_side d coarsest is w) w.cell.west)) a b
    where
      by : (d : Cell) → Wanted es from finest r d → (high_side d.level d.west.0 ≤ at.0) ⊎ (at.0 ≤ d.west.0)
          → (Within (sides_of d) (west_of r at)) ⊎ (Within (sides_of d) (east_of r at))
      by d w (inl h) = inl (record { west = w.lies.west; east = h; south = w.lies.south; north = w.lies.north })
      by d w (inr h) = inr (record { west = h; east = w.lies.east; south = w.lies.south; north = w.lies.north })
