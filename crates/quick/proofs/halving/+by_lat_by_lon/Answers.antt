-- `quick::halving::by_lat` and `by_lon` meet their contracts, in one proof by the halvings that are left: what was found stays, or the half is
-- the answer, or its parts are asked in turn and each is handed what the one before it found. Assumes nothing.
use Rattle.std.specs.Prelude.{ℕ, ◌-◌, Option}
use native.Mathlib.Omega.{arith}
use mathlib.Core.Path.{◌≡◌, refl, sym, ap, subst, ◌∙◌}
use mathlib.Core.Bool.{false}
use mathlib.Core.List.{List}
use borrow.Author.Rules.{rules}
use Rattle.ground.specs.declared.Rectangle.{Rectangle}
use Rattle.ground.specs.declared.Cell.{Cell}
use Rattle.edge.specs.Edge.{Edge}
use Rattle.boundary.specs.Boundary.{unmet}
use Rattle.boundary.specs.Listed.{boundary_of}
use Rattle.quick.specs.declared.half.Half.{Half}
use Rattle.quick.specs.Half.{Same, Sound}
use Rattle.quick.specs.HalfLaws.{met_unmet, sound_same, sound_starting, same_then}
use Rattle.quick.specs.First.{First}
use Rattle.quick.specs.Descent.{ByLat, ByLon}
use Rattle.quick.specs.DescentLaws.{settled_first}
use Rattle.quick.specs.DescentLaws.{lat_inside, lat_end_lem, lat_own, lat_below, lat_whole, lat_south, lat_north, lat_joined}
use Rattle.quick.specs.DescentLaws.{lon_inside, lon_own, lon_whole, lon_west, lon_east, lon_joined}
use Rattle.quick.proofs.halving.+by_lat_by_lon.Goals as goal

-- What is so of ground or of a half is so of it by another name
first_on : {es : List Edge} {from finest : ℕ} {found a : Option Cell} {g r : Rectangle} → g ≡ r → First es from finest g found a → First es from finest r found a
first_on {es} {from} {finest} {found} {a} e f = subst (λ (x : Rectangle). First es from finest x found a) e f

first_as : {es : List Edge} {from finest : ℕ} {found a : Option Cell} {h k : Half} → h ≡ k → First es from finest h.ground found a
    → First es from finest k.ground found a
first_as {es} {from} {finest} {found} {a} e f = subst (λ (x : Half). First es from finest x.ground found a) e f

same_as : (room later : List ℕ) {h k : Half} → h ≡ k → Same h.to room later → Same k.to room later
same_as room later e s = subst (λ (x : Half). Same x.to room later) e s

unmet_on : (es : List Edge) {g r : Rectangle} → g ≡ r → unmet r es ≡ false → unmet g es ≡ false
unmet_on es e u = subst (λ (x : Rectangle). unmet x es ≡ false) (sym e) u

-- ---- by latitude

pub by_lat-returns-then-settled-clause-first : goal.by_lat-returns-then-settled-clause-first
by_lat-returns-then-settled-clause-first t c = settled_first c.requires.seeks c.requires.past (sym c.settled.ensures ∙ c.if-settled.true)

pub by_lat-returns-in-Inside-clause-first : goal.by_lat-returns-in-Inside-clause-first
by_lat-returns-in-Inside-clause-first t c = lat_inside c.requires c.in-Inside.ensures.fact (sym c.settled.ensures ∙ c.if-settled.false)

pub by_lat-returns-then-left-eq0 : goal.by_lat-returns-then-left-eq0
by_lat-returns-then-left-eq0 t c =
    let met = c.in-Met.ensures.fact in
    record { first = lat_end_lem c.requires c.if-left-eq0.true (met_unmet c.requires.sound met.1 met.0); same = λ j h. refl }

pub by_lat-by_lon-requires : goal.by_lat-by_lon-requires
by_lat-by_lon-requires t c =
    let own = c.sorted-own.ensures in
    let some = c.if-left-eq0.false in
    let owned = lat_own c.requires own.ground_value.0 own.ground_value.1 in
    (omega (arith, c.decreases, some), lat_whole owned some c.lat_split-at.ensures c.if-at-own.true)

pub by_lat-returns-then-at-own : goal.by_lat-returns-then-at-own
by_lat-returns-then-at-own t c =
    let own = c.sorted-own.ensures in
    let some = c.if-left-eq0.false in
    let owned = lat_own c.requires own.ground_value.0 own.ground_value.1 in
    let met = c.in-Met.ensures.fact in
    let own_unmet = unmet_on (boundary_of c.args.numbers.now) own.ground_value.0 (met_unmet c.requires.sound met.1 met.0) in
    record {
      first = first_on own.ground_value.0 (lat_below owned some c.by_lon.result own_unmet c.by_lon.ensures.first);
      same = same_then c.args.room.now c.sorted-own.new.room c.by_lon.new.room own.to_le_to c.by_lon.ensures.same;
    }

pub by_lat-by_lon-first-requires : goal.by_lat-by_lon-first-requires
by_lat-by_lon-first-requires t c =
    let own = c.sorted-own.ensures in
    let some = c.if-left-eq0.false in
    let owned = lat_own c.requires own.ground_value.0 own.ground_value.1 in (
      omega (arith, c.decreases, some),
      subst (λ (h : Half). ByLon (boundary_of c.args.numbers.now) c.sorted-own.new.room h c.args.sought (c.args.left - 1) c.args.found)
          (sym c.south_half.ensures) (lat_south owned some c.lat_split-at.ensures c.if-at-own.false),
    )

pub by_lat-by_lon-requires-2 : goal.by_lat-by_lon-requires-2
by_lat-by_lon-requires-2 t c =
    let own = c.sorted-own.ensures in
    let some = c.if-left-eq0.false in
    let owned = lat_own c.requires own.ground_value.0 own.ground_value.1 in
    let first = first_as c.south_half.ensures c.by_lon-first.ensures.first in
    let kept = same_as c.sorted-own.new.room c.by_lon-first.new.room c.south_half.ensures c.by_lon-first.ensures.same in (
      omega (arith, c.decreases, some),
      subst (λ (h : Half). ByLon (boundary_of c.args.numbers.now) c.by_lon-first.new.room h c.args.sought (c.args.left - 1) c.by_lon-first.result)
          (sym c.north_half.ensures)
          (lat_north owned some c.lat_split-at.ensures c.if-at-own.false (sound_same own.ground_value.1 kept (search rules)) c.by_lon-first.result first),
    )

pub by_lat-returns : goal.by_lat-returns
by_lat-returns t c =
    let own = c.sorted-own.ensures in
    let some = c.if-left-eq0.false in
    let owned = lat_own c.requires own.ground_value.0 own.ground_value.1 in
    let met = c.in-Met.ensures.fact in
    let own_unmet = unmet_on (boundary_of c.args.numbers.now) own.ground_value.0 (met_unmet c.requires.sound met.1 met.0) in
    let first = first_as c.south_half.ensures c.by_lon-first.ensures.first in
    let kept = same_as c.sorted-own.new.room c.by_lon-first.new.room c.south_half.ensures c.by_lon-first.ensures.same in
    let still = sound_same {later = c.by_lon-first.new.room} own.ground_value.1 kept (search rules) in
    let answer = lat_joined owned some c.lat_split-at.ensures c.if-at-own.false still c.by_lon-first.result first c.by_lon-2.result own_unmet
    (first_as c.north_half.ensures c.by_lon-2.ensures.first) in
    let last = same_as c.by_lon-first.new.room c.by_lon-2.new.room c.north_half.ensures c.by_lon-2.ensures.same in
    record {
      first = first_on own.ground_value.0 answer;
      same = same_then c.args.room.now c.sorted-own.new.room c.by_lon-2.new.room own.to_le_to (λ j h. last j h ∙ kept j h);
    }

-- ---- by longitude

pub by_lon-returns-then-settled-clause-first : goal.by_lon-returns-then-settled-clause-first
by_lon-returns-then-settled-clause-first t c = settled_first c.requires.seeks c.requires.past (sym c.settled.ensures ∙ c.if-settled.true)

pub by_lon-returns-in-Inside-clause-first : goal.by_lon-returns-in-Inside-clause-first
by_lon-returns-in-Inside-clause-first t c = lon_inside c.requires c.in-Inside.ensures.fact (sym c.settled.ensures ∙ c.if-settled.false)

pub by_lon-by_lat-requires : goal.by_lon-by_lat-requires
by_lon-by_lat-requires t c =
    let own = c.starting_at-own.ensures in
    let es = boundary_of c.args.numbers.now in
    let sound = subst (Sound es c.args.room.now) (sym own) (sound_starting c.requires.sound c.in-Met.ensures.fact.1) in
    let owned = lon_own c.requires (ap (λ (h : Half). h.ground) own) sound in
    (omega (arith, c.decreases, c.requires.odd), lon_whole owned c.lon_split-at.ensures c.if-at-own.true)

pub by_lon-by_lat-first-requires : goal.by_lon-by_lat-first-requires
by_lon-by_lat-first-requires t c =
    let own = c.starting_at-own.ensures in
    let es = boundary_of c.args.numbers.now in
    let sound = subst (Sound es c.args.room.now) (sym own) (sound_starting c.requires.sound c.in-Met.ensures.fact.1) in
    let owned = lon_own c.requires (ap (λ (h : Half). h.ground) own) sound in (
      omega (arith, c.decreases, c.requires.odd),
      subst (λ (h : Half). ByLat es c.args.room.now h c.args.sought (c.args.left - 1) c.args.found)
          (sym c.west_half.ensures) (lon_west owned c.lon_split-at.ensures c.if-at-own.false),
    )

pub by_lon-by_lat-requires-2 : goal.by_lon-by_lat-requires-2
by_lon-by_lat-requires-2 t c =
    let own = c.starting_at-own.ensures in
    let es = boundary_of c.args.numbers.now in
    let sound = subst (Sound es c.args.room.now) (sym own) (sound_starting c.requires.sound c.in-Met.ensures.fact.1) in
    let owned = lon_own c.requires (ap (λ (h : Half). h.ground) own) sound in
    let first = first_as c.west_half.ensures c.by_lat-first.ensures.first in
    let kept = same_as c.args.room.now c.by_lat-first.new.room c.west_half.ensures c.by_lat-first.ensures.same in (
      omega (arith, c.decreases, c.requires.odd),
      subst (λ (h : Half). ByLat es c.by_lat-first.new.room h c.args.sought (c.args.left - 1) c.by_lat-first.result)
          (sym c.east_half.ensures)
          (lon_east owned c.lon_split-at.ensures c.if-at-own.false (sound_same sound kept (search rules)) c.by_lat-first.result first),
    )

pub by_lon-returns : goal.by_lon-returns
by_lon-returns t c =
    let own = c.starting_at-own.ensures in
    let es = boundary_of c.args.numbers.now in
    let sound = subst (Sound es c.args.room.now) (sym own) (sound_starting c.requires.sound c.in-Met.ensures.fact.1) in
    let owned = lon_own c.requires (ap (λ (h : Half). h.ground) own) sound in
    let first = first_as c.west_half.ensures c.by_lat-first.ensures.first in
    let kept = same_as c.args.room.now c.by_lat-first.new.room c.west_half.ensures c.by_lat-first.ensures.same in
    let still = sound_same {later = c.by_lat-first.new.room} sound kept (search rules) in
    let answer = lon_joined owned c.lon_split-at.ensures c.if-at-own.false still c.by_lat-first.result first c.by_lat-2.result
    (first_as c.east_half.ensures c.by_lat-2.ensures.first) in
    let last = same_as c.by_lat-first.new.room c.by_lat-2.new.room c.east_half.ensures c.by_lat-2.ensures.same in
    record { first = first_as own answer; same = same_as c.args.room.now c.by_lat-2.new.room own (λ j h. last j h ∙ kept j h) }
