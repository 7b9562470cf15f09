-- The rectangle read back covers the unit (document 01, "Four spans" and "Reading back"): the fields of a cell that is inside are good,
-- each side lies at or beyond the unit's own extreme, by less than the size of the scale that the code has (document 02, request 2), and
-- so it is with the bytes that coding leaves. Assumes nothing.
use Rattle.std.specs.Prelude.{ℕ, ◌+◌, ◌-◌, ◌*◌, ◌/◌, ◌≤◌, ◌<◌, min, ◌≡◌, refl, true, length, get_or, take, Option, Some}
use Rattle.std.proofs.Common.{div-mul-le_self, arith, ap, subst, ◌∙◌}
use Rattle.std.proofs.Math.Nat.{lt-div-mul-add}
use Rattle.std.proofs.Math.Path.{ap₂, sym}
use mathlib.Core.List.{List}
use Rattle.replies.specs.Replies.{Said, accepted, Outcome, outcome}
use Rattle.facts.specs.Tests.{true_of}
use Rattle.ground.specs.declared.Point.{Point}
use Rattle.ground.specs.declared.Rectangle.{Rectangle}
use Rattle.ground.specs.declared.Cell.{Cell}
use Rattle.angles.specs.Angles.{distance}
use Rattle.ground.specs.Levels.{lat_end, lon_end, IsLevel, size_of}
use Rattle.ground.proofs.LevelsLaws.{size_least}
use Rattle.ground.specs.Cells.{IsCell, location_cell, corner_of}
use Rattle.ground.proofs.CellsLaws.{Reference}
use Rattle.code.specs.declared.Fields.{Fields}
use Rattle.code.specs.Code.{rectangle_of, writing, reading, Told, tells_of}
use Rattle.code.specs.WritingLaws.{Good, good_writing}
use Rattle.code.specs.Reverse.{reading_written}
use Rattle.corners.specs.Corners.{corners_of}
use Rattle.boundary.specs.Boundary.{edges_of, inside}
use Rattle.ground.specs.Rectangles.{Holds}
use Rattle.facts.specs.Lists.{each_at}
use Rattle.unit.specs.declared.Kind.{Kind}
use Rattle.unit.specs.Extents.{extremes_of}
use Rattle.unit.specs.Unit.{span_cells, fields_at, level_of, fields_of, code_at, chosen_cell, coding}
use Rattle.unit.specs.ExtentsLaws.{extremes_hold, over_range}
use Rattle.chosen.specs.Chosen.{Over}
use Rattle.chosen.proofs.ChosenLaws.{choose_chosen}
use Rattle.unit.specs.CheckLaws.{Grounded, Entered, entered, celled, all_accept}
use Rattle.unit.specs.SpansLaws.{ReferenceIn, reference_in_lem, spans_least}
use Rattle.unit.specs.TailsLaws.{Fits, one_step}

-- So many cells of size s, less one, reach a distance, by less than s beyond it
pub record Rounded (s d n : ℕ) : Type 0 where
  pub some : 1 ≤ n
  pub reaches : d ≤ (n - 1) * s
  pub short : (n - 1) * s < d + s

-- A distance, divided by s and rounded up, plus 1, is so many
pub rounded : (s d : ℕ) → 0 < s → Rounded s d (span_cells s d)
rounded s d h =
    let q : ℕ = (d + (s - 1)) / s in
    let less : q + 1 - 1 ≡ q = omega arith in
    let most : q * s ≤ d + (s - 1) = div-mul-le_self (d + (s - 1)) s in
    let above : d + (s - 1) < q * s + s = lt-div-mul-add h in
    record { some = omega arith; reaches = rw less (omega arith); short = rw less (omega arith) }

-- Two sides at or beyond two ends, by less than s
pub record Encloses (s a b low high : ℕ) : Type 0 where
  pub below : low ≤ a
  pub near_below : a < low + s
  pub above : b ≤ high
  pub near_above : high < b + s

-- The sides that reading back gives, in either direction, lie so
enclosed : {a b r : ℕ} (s end : ℕ) → 0 < s → Reference a b r → b ≤ end
    → Encloses s a b (r - (span_cells s (distance r a) - 1) * s) (min (r + (span_cells s (distance r b) - 1) * s) end)
enclosed {a} {b} {r} s end h p k =
    let low = rounded s (distance r a) h in
    let high = rounded s (distance r b) h in
    record { below = omega arith; near_below = omega arith; above = omega arith; near_above = omega arith }

-- A rectangle whose sides lie at or beyond those of another, by less than s
pub record Covers (r around : Rectangle) (s : ℕ) : Type 0 where
  pub lon : Encloses s r.west.0 r.east.0 around.west.0 around.east.0
  pub lat : Encloses s r.south.0 r.north.0 around.south.0 around.north.0

-- The fields of a unit's corners, number and cell
abbrev pub unit_fields : List Point → ℕ → Cell → Fields
unit_fields corners number c = fields_of (extremes_of corners) number c

-- A cell that is inside a unit whose corners, extents and number no check refuses
pub record Passing (corners : List Point) (number : ℕ) (c : Cell) : Type 0 where
  pub ground : Grounded corners
  pub most : number ≤ 1048575
  pub cell : IsCell c
  pub within : inside (edges_of corners) c ≡ true

module _ {corners : List Point} {number : ℕ} {c : Cell} (p : Passing corners number c) where
  -- A search over them could take for granted what it does
  over : Over (extremes_of corners) (edges_of corners)
  over = over_range corners p.ground.range

  -- The reference lies within the extents, and the level from it is one
  abbrev reference : Point
  reference = corner_of (location_cell c)

  between : ReferenceIn (extremes_of corners) reference
  between = reference_in_lem over c p.cell p.within

  abbrev level : ℕ
  level = level_of (extremes_of corners) number reference

  fits : Fits (fields_at level (extremes_of corners) number reference)
  fits = one_step between (omega (arith, p.ground.lat, p.ground.lon)) number

  is_level : IsLevel level
  unfolding fields_at
  is_level = record { coarsest = omega (arith, fits.least); finest = omega (arith, fits.most) }

  -- The fields of the cell are good
  pub fields_good : Good (unit_fields corners number c)
  unfolding fields_of fields_at
  fields_good =
      let least = spans_least between level is_level number in
      let most = fits.spans in
      record {
        lat = record { whole = between.lat.whole; below = omega (arith, between.lat.high, over.north_end) };
        lon = record { whole = between.lon.whole; below = omega (arith, between.lon.high, over.east_end) };
        scale = (fits.least, fits.most);
        east = (least.east, most.east);
        north = (least.north, most.north);
        west = (least.west, most.west);
        south = (least.south, most.south);
        number = p.most;
      }

  -- Their rectangle's sides lie at or beyond the unit's own extremes, by less than the scale's size
  pub fields_cover : Covers (extremes_of corners) (rectangle_of (unit_fields corners number c)) (size_of (unit_fields corners number c).scale)
  unfolding rectangle_of fields_of fields_at
  fields_cover =
      let some : 0 < size_of level = omega (arith, size_least level is_level) in
      record {
        lon = enclosed (size_of level) lon_end some between.lon over.east_end;
        lat = enclosed (size_of level) lat_end some between.lat over.north_end;
      }

  -- Every corner lies within that rectangle
  pub corners_held : (i : ℕ) → i < length corners → (d : Point) → Holds (rectangle_of (unit_fields corners number c)) (get_or corners i d)
  corners_held i h d =
      let held = each_at (Holds (extremes_of corners)) corners (extremes_hold corners) i h d in
      let k = fields_cover in
      record {
        west = omega (arith, k.lon.below, held.west);
        east = omega (arith, k.lon.above, held.east);
        south = omega (arith, k.lat.below, held.south);
        north = omega (arith, k.lat.above, held.north);
      }

-- A unit coded: its cell, with which no check refuses, and coding is writing from its fields
pub record UnitCoded (room numbers : List ℕ) (kind : Kind) (number : ℕ) : Type 0 where
  pub cell : Cell
  pub chosen : chosen_cell (corners_of numbers) ≡ Some cell
  pub passing : Passing (corners_of numbers) number cell
  pub written : coding room numbers kind number ≡ writing room (unit_fields (corners_of numbers) number cell)

-- What reading tells of a unit's code: acceptance, and a rectangle that covers the unit, every corner within it
pub record ReadBack (corners : List Point) (told : Told) : Type 0 where
  pub said : told.said ≡ accepted
  pub covers : Covers (extremes_of corners) told.rectangle (size_of told.fields.scale)
  pub held : (i : ℕ) → i < length corners → (d : Point) → Holds told.rectangle (get_or corners i d)

-- The chosen cell of corners that checks 4 and 5 accept is a cell that is inside
pub chosen_inside : {corners : List Point} → Grounded corners → {c : Cell} → chosen_cell corners ≡ Some c → IsCell c × (inside (edges_of corners) c ≡ true)
chosen_inside {corners} g {c} chosen =
    let is = choose_chosen (over_range corners g.range) chosen in
    (is.cell, true_of (inside (edges_of corners) c) is.within)

-- and with checks 1 to 6 it passes
pub passing : {room : ℕ} {numbers : List ℕ} {number : ℕ} → Entered room numbers number → {c : Cell} → chosen_cell (corners_of numbers) ≡ Some c
    → Passing (corners_of numbers) number c
passing h chosen =
    let is = chosen_inside h.ground chosen in
    record { ground = h.ground; most = h.most; cell = is.0; within = is.1 }

module _ (room numbers : List ℕ) (kind : Kind) (number : ℕ) where
  -- Coding that accepts codes its unit
  pub coded : (coding room numbers kind number).said ≡ accepted → UnitCoded room numbers kind number
  unfolding coding
  coded e =
      let corners : List Point = corners_of numbers in
      let r : Rectangle = extremes_of corners in
      let all = all_accept (length room) numbers kind number (ap (λ (s : Said). s.number) e) in
      let h = entered (length room) numbers kind number all.0 in
      let last = celled (chosen_cell corners) all.1 in
      let p = passing h last.chosen in
      record {
        cell = last.cell;
        chosen = last.chosen;
        passing = p;
        written =
            ap₂ (λ (said : Said) (choice : Option Cell). outcome said (code_at r number choice) room) e last.chosen
            ∙ sym (good_writing room (unit_fields corners number last.cell) h.long (fields_good p));
      }

  -- Bytes 0 to 19 of the room then tell the fields of the unit
  pub reading_coded : (e : (coding room numbers kind number).said ≡ accepted)
      → reading (take 20 (coding room numbers kind number).room) ≡ tells_of (unit_fields (corners_of numbers) number (coded e).cell)
  reading_coded e =
      let w = (coded e).written in
      ap (λ (o : Outcome). reading (take 20 o.room)) w
      ∙ reading_written room (unit_fields (corners_of numbers) number (coded e).cell) (ap (λ (o : Outcome). o.said) (sym w) ∙ e)

  -- and a rectangle that covers it
  pub read_back : (coding room numbers kind number).said ≡ accepted
      → ReadBack (corners_of numbers) (reading (take 20 (coding room numbers kind number).room))
  read_back e =
      let p = (coded e).passing in
      subst (ReadBack (corners_of numbers)) (sym (reading_coded e))
      (record { said = refl; covers = fields_cover p; held = corners_held p })
