-- The laws of coding's checks (document 01, "Replies"; document 02, request 1): what each table leaves where it refuses nothing, and what
-- the tables before a cell is looked for leave together. Assumes nothing.
use Rattle.std.specs.Prelude.{ℕ, suc, ◌/◌, ◌%◌, ◌≤◌, ◌≡◌, refl, Bool, true, false, cond, List, [], ◌∷◌, ◌++◌, eqb, ltb, length, Option, Some, None}
use Rattle.std.proofs.Common.{arith, true≢false, ltb-false, le-ltb, eqb-true}
use Rattle.std.proofs.lemmas.Bool.{eqb-false, not-false}
use Rattle.replies.specs.Replies.{Check, run}
use Rattle.replies.specs.RepliesLaws.{Passed, passed, run_first, run_second, both_pass}
use Rattle.facts.specs.Tests.{neither}
use Rattle.facts.specs.Numbers.{max_above}
use Rattle.facts.specs.Places.{first_place}
use Rattle.ground.specs.declared.Point.{Point}
use Rattle.ground.specs.declared.Rectangle.{Rectangle}
use Rattle.ground.specs.declared.Cell.{Cell}
use Rattle.ground.specs.Levels.{degree, lat_end, lon_end}
use Rattle.code.specs.WritingLaws.{within}
use Rattle.corners.specs.Corners.{corners_of}
use Rattle.crossed.specs.Crossed.{crossed}
use Rattle.unit.specs.declared.Kind.{Kind}
use Rattle.unit.specs.declared.Kind.TheVariants.{Building, Other}
use Rattle.unit.specs.Extents.{extremes_of, lat_extent, lon_extent, span_of}
use Rattle.unit.specs.Unit.{chosen_cell, above_range, above_degree}
use Rattle.unit.specs.Unit.{room_check, shape_checks, ground_checks, number_check, cell_check, corner_checks, code_checks}
use Rattle.unit.specs.ExtentsLaws.{InRange}
use Rattle.unit.specs.Frame.{first_checks}

-- Check 1 leaves room for a code
pub roomy : (room : ℕ) → (run (room_check room)).number ≡ 0 → 20 ≤ room
roomy room e = at (passed (room_check room) tt e)
  where
    at : Passed (room_check room) → 20 ≤ room
    at (short, _) = ltb-false room 20 short

-- Checks 2 and 3 leave 3 to 1,024 corners of two numbers each
pub record Shaped (numbers : List ℕ) : Type 0 where
  pub even : length numbers % 2 ≡ 0
  pub least : 3 ≤ length numbers / 2
  pub most : length numbers / 2 ≤ 1024

pub shaped : (numbers : List ℕ) → (run (shape_checks numbers)).number ≡ 0 → Shaped numbers
shaped numbers e = at (passed (shape_checks numbers) tt e)
  where
    at : Passed (shape_checks numbers) → Shaped numbers
    at (odd, (count, _)) =
        let between = within 3 1024 (length numbers / 2) count in
        let paired = eqb-false (length numbers % 2) 1 odd in
        record { even = omega arith; least = between.0; most = between.1 }

-- An extent is above a degree where the span is
pub span_above : (r : Rectangle) → ltb degree (span_of r) ≡ above_degree r
span_above r = max_above degree (lat_extent r) (lon_extent r)

-- Corners of which none is above its range are within it
in_range : (corners : List Point) → ltb (first_place above_range corners) (length corners) ≡ false → InRange corners
in_range [] e = record { lat = tt; lon = tt }
in_range (p ∷ ps) e = at (above_range p) refl e (in_range ps)
  where
    at : (b : Bool) → above_range p ≡ b → ltb (cond b 0 (suc (first_place above_range ps))) (suc (length ps)) ≡ false
        → (ltb (first_place above_range ps) (length ps) ≡ false → InRange ps) → InRange (p ∷ ps)
    at true k e later = let none : ⊥ = omega (arith, ltb-false 0 (suc (length ps)) e) in absurd none
    at false k e later =
        let h = neither (ltb lat_end p.lat.0) (ltb lon_end p.lon.0) k in
        let most = ltb-false (suc (first_place above_range ps)) (suc (length ps)) e in
        let rest : InRange ps = later (le-ltb (first_place above_range ps) (length ps) (omega arith)) in
        record { lat = (ltb-false lat_end p.lat.0 h.0, rest.lat); lon = (ltb-false lon_end p.lon.0 h.1, rest.lon) }

-- Checks 4, 5 and 31 leave every corner within the range, extents of at most a degree, and a boundary that is not crossed
pub record Grounded (corners : List Point) : Type 0 where
  pub range : InRange corners
  pub lat : lat_extent (extremes_of corners) ≤ degree
  pub lon : lon_extent (extremes_of corners) ≤ degree
  pub simple : crossed corners ≡ false

pub grounded : (corners : List Point) → (run (ground_checks corners)).number ≡ 0 → Grounded corners
grounded corners e = at (passed (ground_checks corners) tt e)
  where
    at : Passed (ground_checks corners) → Grounded corners
    at (above, (wide, (crosses, _))) =
        let r : Rectangle = extremes_of corners in
        let extents = neither (ltb degree (lat_extent r)) (ltb degree (lon_extent r)) wide in
        record {
          range = in_range corners above;
          lat = ltb-false degree (lat_extent r) extents.0;
          lon = ltb-false degree (lon_extent r) extents.1;
          simple = crosses;
        }

-- Check 6 leaves a number of at most 1,048,575
pub number_most : (kind : Kind) (number : ℕ) → (run (number_check kind number)).number ≡ 0 → number ≤ 1048575
number_most kind number e = at kind (passed (number_check kind number) tt e)
  where
    at : (kind : Kind) → Passed (number_check kind number) → number ≤ 1048575
    at Building (bad, _) = (within 1 1048575 number bad).1
    at Other (bad, _) = let none : number ≡ 0 = eqb-true number 0 (not-false (eqb number 0) bad) in omega arith

-- The tables before a cell is looked for leave all of that
pub record Entered (room : ℕ) (numbers : List ℕ) (number : ℕ) : Type 0 where
  pub long : 20 ≤ room
  pub shape : Shaped numbers
  pub ground : Grounded (corners_of numbers)
  pub most : number ≤ 1048575

pub entered : (room : ℕ) (numbers : List ℕ) (kind : Kind) (number : ℕ) → (run (first_checks room numbers kind number)).number ≡ 0
    → Entered room numbers number
unfolding first_checks
entered room numbers kind number e =
    let corners : List Point = corners_of numbers in
    let first = both_pass (room_check room) (shape_checks numbers ++ ground_checks corners ++ number_check kind number) tt e in
    let second = both_pass (shape_checks numbers) (ground_checks corners ++ number_check kind number) tt first.1 in
    let third = both_pass (ground_checks corners) (number_check kind number) tt second.1 in
    record {
      long = roomy room first.0;
      shape = shaped numbers second.0;
      ground = grounded corners third.0;
      most = number_most kind number third.1;
    }

-- Check 7 leaves a cell
pub record Celled (choice : Option Cell) : Type 0 where
  pub cell : Cell
  pub chosen : choice ≡ Some cell

pub celled : (choice : Option Cell) → (run (cell_check choice)).number ≡ 0 → Celled choice
celled choice e = at choice (passed (cell_check choice) tt e)
  where
    at : (choice : Option Cell) → Passed (cell_check choice) → Celled choice
    at (Some c) _ = record { cell = c; chosen = refl }
    at None (none, _) = absurd (true≢false none)

module _ (room : ℕ) (numbers : List ℕ) (kind : Kind) (number : ℕ) where
  -- Coding's checks are those before a cell is looked for, and then that of the chosen cell
  abbrev firsts : List Check
  firsts = first_checks room numbers kind number

  abbrev lasts : List Check
  lasts = cell_check (chosen_cell (corners_of numbers))

  -- What the first say, where one of them refuses, coding says
  pub first_refuses : ((run firsts).number ≡ 0 → ⊥) → run (code_checks room numbers kind number) ≡ run firsts
  unfolding first_checks corner_checks
  first_refuses = run_first firsts lasts tt

  -- and where none does, what the last says
  pub first_accepts : (run firsts).number ≡ 0 → run (code_checks room numbers kind number) ≡ run lasts
  unfolding first_checks corner_checks
  first_accepts = run_second firsts lasts tt

  -- Where coding refuses nothing, neither does
  pub all_accept : (run (code_checks room numbers kind number)).number ≡ 0 → ((run firsts).number ≡ 0) × ((run lasts).number ≡ 0)
  unfolding first_checks corner_checks
  all_accept = both_pass firsts lasts tt
