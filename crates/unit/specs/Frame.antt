-- Coding's frame (document 01, "Replies"): what both roads share around their search. The answers of coding, the checks before a cell is
-- looked for, and the end of coding around a cell that is handed in. Assumes nothing.
use Rattle.std.specs.Prelude.{ℕ, ◌/◌, ◌≤◌, cond, List, ◌++◌, ◌⊎◌, eqb, length, Option, Some, None, Result, Ok, Err}
use Rattle.std.proofs.Common.{inl, inr}
use Rattle.replies.specs.Replies.{Said, refused, accepted, Check, run, Outcome}
use Rattle.ground.specs.declared.Rectangle.{Rectangle}
use Rattle.ground.specs.declared.Cell.{Cell}
use Rattle.ground.specs.Cells.{is_cell}
use Rattle.code.specs.Code.{writing}
use Rattle.unit.specs.declared.Kind.{Kind}
use Rattle.unit.specs.declared.Refusal.{Refusal}
use Rattle.unit.specs.declared.Refusal.TheVariants as refusal
use Rattle.corners.specs.Corners.{corners_of}
use Rattle.boundary.specs.Listed.{boundary_of}
use Rattle.chosen.specs.Chosen.{Over}
use Rattle.unit.specs.Extents.{extremes_of}
use Rattle.unit.specs.Unit.{fields_of, room_check, shape_checks, ground_checks, number_check}

-- The number and the place of each answer of coding
abbrev pub says : Result (Unit {0}) Refusal → Said
says (Ok _) = accepted
says (Err refusal.Output) = refused 1 0
says (Err refusal.Pairs) = refused 2 0
says (Err refusal.Corners) = refused 3 0
says (Err (refusal.Range corner)) = refused 4 corner
says (Err refusal.Extent) = refused 5 0
says (Err (refusal.Crossed corner)) = refused 31 corner
says (Err refusal.Number) = refused 6 0
says (Err refusal.NoCell) = refused 7 0

-- What coding leaves, from its answer and the room
abbrev pub leaves : Result (Unit {0}) Refusal → List ℕ → Outcome
leaves answer room = record { said = says answer; room = room }

-- The first checks, those before a cell is looked for: 1 to 6, with 31 between 5 and 6
unfoldable pub first_checks : ℕ → List ℕ → Kind → ℕ → List Check
first_checks room numbers kind number =
    room_check room ++ shape_checks numbers ++ ground_checks (corners_of numbers) ++ number_check kind number

-- What the first checks leave to a road, in the terms of the definitions
abbrev pub tells : Result Rectangle Refusal → Said ⊎ Rectangle
tells (Err e) = inl (says (Err e))
tells (Ok r) = inr r

-- The refusal of the first checks, or the unit's own extremes where they refuse nothing
unfoldable pub admitting : ℕ → List ℕ → Kind → ℕ → Said ⊎ Rectangle
admitting room numbers kind number =
    let first : Said = run (first_checks room numbers kind number) in
    cond (eqb first.number 0) (inr (extremes_of (corners_of numbers))) (inl first)

-- What a road's search takes for granted: at most 1,024 corners, and what a search over extents and edges does
pub record Searched (numbers : List ℕ) (r : Rectangle) : Type 0 where
  pub most : length numbers / 2 ≤ 1024
  pub over : Over r (boundary_of numbers)

-- What writing from a cell's fields comes to: acceptance, or 7. A cell that is inside has fields that can be written
abbrev pub ending : Outcome → Outcome
ending o = record { said = cond (eqb o.said.number 0) accepted (says (Err refusal.NoCell)); room = o.room }

-- The end of coding around what a search hands in: writing from a cell's fields, and 7 where it is no cell or they cannot be written
unfoldable pub finishing : List ℕ → Rectangle → ℕ → Option Cell → Outcome
finishing room r number None = leaves (Err refusal.NoCell) room
finishing room r number (Some c) = cond (is_cell c) (ending (writing room (fields_of r number c))) (leaves (Err refusal.NoCell) room)
