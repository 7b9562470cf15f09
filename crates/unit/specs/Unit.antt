-- Coding a unit (document 01, "The twenty characters" and "Replies"; document 02, requests 1 and 2): scale, spans, checks 1 to 7 and 31,
-- and coding as one function from room, numbers, kind and unit number to reply and room. Assumes nothing.
use Rattle.std.specs.Prelude.{ℕ, zero, suc, ◌+◌, ◌-◌, ◌*◌, ◌/◌, ◌%◌, max, Bool, true, false, cond, not, ◌||◌, List, [], ◌∷◌, ◌++◌, eqb, ltb, length, Option, Some, None}
use Prim.Native.Char.{code}
use Rattle.replies.specs.Replies.{Check, check, check_at, run, Outcome, outcome}
use Rattle.facts.specs.Places.{first_place}
use Rattle.ground.specs.declared.Point.{Point}
use Rattle.ground.specs.declared.Rectangle.{Rectangle}
use Rattle.ground.specs.declared.Cell.{Cell}
use Rattle.angles.specs.Angles.{distance}
use Rattle.ground.specs.Levels.{degree, lat_end, lon_end, coarsest_level, size_of}
use Rattle.ground.specs.Cells.{location_cell, corner_of}
use Rattle.code.specs.declared.Fields.{Fields}
use Rattle.code.specs.Code.{outside, finest_scale, code_of}
use Rattle.unit.specs.declared.Kind.{Kind}
use Rattle.unit.specs.declared.Kind.TheVariants.{Building, Other}
use Rattle.corners.specs.Corners.{corners_of}
use Rattle.boundary.specs.Boundary.{edges_of}
use Rattle.crossed.specs.Crossed.{pair_of, crossed, start_of}
use Rattle.unit.specs.Extents.{extremes_of, lat_extent, lon_extent, span_of}
use Rattle.chosen.specs.Chosen.{choose}

-- The finest of so many levels after the coarsest whose nominal size times 32 is greater than a span, else the coarsest
abbrev pub scale_from : ℕ → ℕ → ℕ
scale_from span zero = coarsest_level
scale_from span (suc n) =
    let level : ℕ = coarsest_level + suc n in
    cond (ltb span (size_of level * 32)) level (scale_from span n)

-- Scale: L is the finest level, at most 27, whose nominal size times 32 is greater than Span
unfoldable pub scale_of : ℕ → ℕ
scale_of span = scale_from span (finest_scale - coarsest_level)

-- A distance, divided by s and rounded up, plus 1
abbrev pub span_cells : ℕ → ℕ → ℕ
span_cells s d = (d + (s - 1)) / s + 1

-- Four spans, order E, W, S, N, with s the nominal size of a level and from a reference; and the unit number
unfoldable pub fields_at : ℕ → Rectangle → ℕ → Point → Fields
fields_at level r number p =
    let s : ℕ = size_of level in
    record {
      reference = p;
      scale = level;
      east = span_cells s (distance p.lon.0 r.east.0);
      west = span_cells s (distance p.lon.0 r.west.0);
      south = span_cells s (distance p.lat.0 r.south.0);
      north = span_cells s (distance p.lat.0 r.north.0);
      number = number;
    }

-- Long tails (document 02, request 2): any of the four is above 31
abbrev pub above31 : Fields → Bool
above31 f = (ltb 31 f.east || ltb 31 f.west) || (ltb 31 f.south || ltb 31 f.north)

-- One level coarser; there is none before the coarsest
abbrev pub coarser : ℕ → ℕ
coarser level = max coarsest_level (level - 1)

-- "If any of the four is above 31, L is made one level coarser"
unfoldable pub level_of : Rectangle → ℕ → Point → ℕ
level_of r number p =
    let level : ℕ = scale_of (span_of r) in
    cond (above31 (fields_at level r number p)) (coarser level) level

-- "and all four are worked out afresh"; the south-west corner of the location cell is the reference
unfoldable pub fields_of : Rectangle → ℕ → Cell → Fields
fields_of r number c =
    let p : Point = corner_of (location_cell c) in
    fields_at (level_of r number p) r number p

-- The code of a unit from its extremes, its number and its chosen cell
abbrev pub code_at : Rectangle → ℕ → Option Cell → List ℕ
code_at r number (Some c) = code_of (fields_of r number c)
code_at r number None = []

-- The kind by the listing's letter: "`B` or `F` (building, other)"; any other letter is another kind too
unfoldable pub kind_of : ℕ → Kind
kind_of letter = cond (eqb letter (code "B")) Building Other

-- The chosen cell of a unit's corners
abbrev pub chosen_cell : List Point → Option Cell
chosen_cell corners = choose (extremes_of corners) (edges_of corners)

-- Check 1: output shorter than 20
abbrev pub room_check : ℕ → List Check
room_check room = check 1 (ltb room 20) ∷ []

-- Check 2: odd count of numbers (latitude, longitude alternate); check 3: fewer than 3 or more than 1,024 corners
abbrev pub shape_checks : List ℕ → List Check
shape_checks numbers =
    check 2 (eqb (length numbers % 2) 1)
    ∷ check 3 (outside 3 1024 (length numbers / 2))
    ∷ []

-- A coordinate above its range
abbrev pub above_range : Point → Bool
above_range p = ltb lat_end p.lat.0 || ltb lon_end p.lon.0

-- An extent above 7,372,800
abbrev pub above_degree : Rectangle → Bool
above_degree r = ltb degree (lat_extent r) || ltb degree (lon_extent r)

-- Check 31 (document 02, request 1): crossed; it "names the corner where the pair's first edge starts"
abbrev pub crossed_check : List Point → List Check
crossed_check corners = check_at 31 (crossed corners) (start_of (pair_of corners)) ∷ []

-- Check 4, at the first such corner, check 5, and 31 "between 5 and 6"
abbrev pub ground_checks : List Point → List Check
ground_checks corners =
    let above : ℕ = first_place above_range corners in
    check_at 4 (ltb above (length corners)) above
    ∷ check 5 (above_degree (extremes_of corners))
    ∷ crossed_check corners

-- Building with a number not in 1 to 1,048,575, or other kind with a number not 0
abbrev pub bad_number : Kind → ℕ → Bool
bad_number Building number = outside 1 1048575 number
bad_number Other number = not (eqb number 0)

-- Check 6
abbrev pub number_check : Kind → ℕ → List Check
number_check kind number = check 6 (bad_number kind number) ∷ []

-- No cell of levels 9 to 27 is inside
abbrev pub no_cell : Option Cell → Bool
no_cell (Some c) = false
no_cell None = true

-- Check 7, of the chosen cell. There is no check 8 (document 02, request 2)
abbrev pub cell_check : Option Cell → List Check
cell_check choice = check 7 (no_cell choice) ∷ []

-- From 4 on: what the corners, the kind and the unit number tell
unfoldable pub corner_checks : List Point → Kind → ℕ → List Check
corner_checks corners kind number =
    ground_checks corners ++ number_check kind number ++ cell_check (chosen_cell corners)

-- Coding's checks in order; the output by its length
abbrev pub code_checks : ℕ → List ℕ → Kind → ℕ → List Check
code_checks room numbers kind number = room_check room ++ shape_checks numbers ++ corner_checks (corners_of numbers) kind number

-- Coding, from room, numbers, kind and unit number to what it says and the room
unfoldable pub coding : List ℕ → List ℕ → Kind → ℕ → Outcome
coding room numbers kind number =
    outcome (run (code_checks (length room) numbers kind number))
    (code_at (extremes_of (corners_of numbers)) number (chosen_cell (corners_of numbers)))
    room
