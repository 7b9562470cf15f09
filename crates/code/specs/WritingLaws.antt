-- The laws of writing: what its checks leave, and what it leaves in the room. Assumes nothing.
use Rattle.std.specs.Prelude.{ℕ, ◌≤◌, ◌<◌, ◌%◌, ◌≡◌, refl, false, not, ◌||◌, List, ◌++◌, eqb, leb, ltb, length, drop}
use Rattle.std.proofs.Common.{ap, ◌∙◌, sym, ltb-false, leb-false, eqb-true, eq-eqb, ne_eqb, lt-ltb, le-ltb}
use Rattle.std.proofs.lemmas.Bool.{not-false, lt-leb}
use Rattle.replies.specs.Replies.{Said, refused, accepted, run, outcome}
use Rattle.replies.specs.RepliesLaws.{Passed, passed, run_append, both_pass}
use Rattle.facts.specs.Tests.{neither, none_of}
use Rattle.ground.specs.Levels.{lat_end, lon_end}
use Rattle.ground.specs.Cells.{location_size}
use Rattle.location.specs.LocationLaws.{Angle}
use Rattle.spelling.specs.Spelling.{spelled_both}
use Rattle.code.specs.declared.Fields.{Fields}
use Rattle.code.specs.Code.{code_of, outside, finest_scale, no_reference, no_point, no_spans, room_check, field_checks, writing}

-- A code has twenty bytes
pub code_twenty : (f : Fields) → length (code_of f) ≡ 20
unfolding code_of spelled_both
code_twenty f = refl

-- A number that is not outside a range is within it
pub within : (least most x : ℕ) → outside least most x ≡ false → (least ≤ x) × (x ≤ most)
within least most x e =
    let h = neither (ltb x least) (ltb most x) e in
    (ltb-false x least h.0, ltb-false most x h.1)

-- and one within it is not outside
pub in_range : {least most x : ℕ} → (least ≤ x) × (x ≤ most) → outside least most x ≡ false
in_range {least} {most} {x} k = none_of (le-ltb x least k.0) (le-ltb most x k.1)

-- The same of an angle that a reference can have
angle : (a end : ℕ) → no_reference a end ≡ false → Angle end a
angle a end e =
    let h = neither (not (eqb (a % location_size) 0)) (leb end a) e in
    record {
      whole = eqb-true (a % location_size) 0 (not-false (eqb (a % location_size) 0) h.0);
      below = leb-false end a h.1;
    }

in_angle : {end a : ℕ} → Angle end a → no_reference a end ≡ false
in_angle {end} {a} k = none_of (ap not (eq-eqb (a % location_size) 0 k.whole)) (lt-leb end a k.below)

-- Fields that a code can have
pub record Good (f : Fields) : Type 0 where
  pub lat : Angle lat_end f.reference.lat.0
  pub lon : Angle lon_end f.reference.lon.0
  pub scale : (14 ≤ f.scale) × (f.scale ≤ finest_scale)
  pub east : (2 ≤ f.east) × (f.east ≤ 31)
  pub north : (2 ≤ f.north) × (f.north ≤ 31)
  pub west : (1 ≤ f.west) × (f.west ≤ 31)
  pub south : (1 ≤ f.south) × (f.south ≤ 31)
  pub number : f.number ≤ 1048575

-- What checks 22 to 25 leave
pub fields_passed : (f : Fields) → (run (field_checks f)).number ≡ 0 → Good f
unfolding field_checks
fields_passed f e = good (passed (field_checks f) tt e)
  where
    good : Passed (field_checks f) → Good f
    good (point, (scale, (spans, (number, _)))) =
        let p = neither (no_reference f.reference.lat.0 lat_end) (no_reference f.reference.lon.0 lon_end) point in
        let enw = neither (outside 2 31 f.east || outside 2 31 f.north || outside 1 31 f.west) (outside 1 31 f.south) spans in
        let en = neither (outside 2 31 f.east || outside 2 31 f.north) (outside 1 31 f.west) enw.0 in
        let e = neither (outside 2 31 f.east) (outside 2 31 f.north) en.0 in
        record {
          lat = angle f.reference.lat.0 lat_end p.0;
          lon = angle f.reference.lon.0 lon_end p.1;
          scale = within 14 finest_scale f.scale scale;
          east = within 2 31 f.east e.0;
          north = within 2 31 f.north e.1;
          west = within 1 31 f.west en.1;
          south = within 1 31 f.south enw.1;
          number = ltb-false 1048575 f.number number;
        }

-- Good fields pass them
pub good_pass : (f : Fields) → Good f → run (field_checks f) ≡ accepted
unfolding field_checks
good_pass f g =
    let point : no_point f.reference ≡ false = none_of (in_angle g.lat) (in_angle g.lon) in
    let scale : outside 14 finest_scale f.scale ≡ false = in_range g.scale in
    let spans : no_spans f ≡ false =
    none_of (none_of (none_of (in_range g.east) (in_range g.north)) (in_range g.west)) (in_range g.south) in
    let number : ltb 1048575 f.number ≡ false = le-ltb 1048575 f.number g.number in
    rw (point, scale, spans, number)

-- A room that has twenty bytes passes check 21
pub room_passes : (room : List ℕ) → 20 ≤ length room → run (room_check room) ≡ accepted
unfolding room_check
room_passes room h = rw (le-ltb (length room) 20 h)

room_passed : (room : List ℕ) → (run (room_check room)).number ≡ 0 → 20 ≤ length room
unfolding room_check
room_passed room e = long (passed (room_check room) tt e)
  where
    long : Passed (room_check room) → 20 ≤ length room
    long (passes, _) = ltb-false (length room) 20 passes

-- Where there is room, writing says what checks 22 to 25 say
pub room_then : (room : List ℕ) (f : Fields) → 20 ≤ length room → run (room_check room ++ field_checks f) ≡ run (field_checks f)
unfolding room_check
room_then room f h = run_append (room_check room) (field_checks f) tt ∙ rw (room_passes room h)

-- A shorter room is refused 21, and left
pub short_writing : (room : List ℕ) (f : Fields) → length room < 20 → writing room f ≡ record { said = refused 21 0; room = room }
unfolding writing room_check
short_writing room f h = rw (lt-ltb (length room) 20 h)

-- Where there is room and a check refuses the fields, that is what writing says, and it leaves the room
pub fields_writing : (room : List ℕ) (f : Fields) {said : Said} → 20 ≤ length room → said ≡ run (field_checks f) → (said.number ≡ 0 → ⊥)
    → writing room f ≡ record { said = said; room = room }
unfolding writing
fields_writing room f {said} h e n =
    ap (λ (s : Said). outcome s (code_of f) room) (room_then room f h ∙ sym e) ∙ rw (ne_eqb said.number 0 n)

-- Good fields are accepted by a room that has twenty
pub good_writing : (room : List ℕ) (f : Fields) → 20 ≤ length room → Good f
    → writing room f ≡ record { said = accepted; room = code_of f ++ drop 20 room }
unfolding writing
good_writing room f h g = rw (room_then room f h ∙ good_pass f g)

-- Fields that writing accepts are good, and the room has twenty bytes
pub accepted_writing : (room : List ℕ) (f : Fields) → (writing room f).said ≡ accepted → (20 ≤ length room) × Good f
unfolding writing room_check
accepted_writing room f e =
    let z = both_pass (room_check room) (field_checks f) tt (ap (λ (s : Said). s.number) e) in
    (room_passed room z.0, fields_passed f z.1)
