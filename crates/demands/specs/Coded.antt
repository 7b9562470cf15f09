-- The mission's demand 2 in one statement: an accepted unit gets the code of its chosen cell, and 7 is said where no cell is inside, and
-- only there. Assumes nothing.
use Rattle.std.specs.Prelude.{ℕ, Option, Some, None, ◌≡◌, Bool, List, T, length, drop}
use Rattle.std.proofs.Common.{arith, sym, ◌∙◌}
use Rattle.std.proofs.Math.Path.{refl, ap, ap₂}
use Rattle.std.proofs.Math.Bool.{true, false}
use Rattle.std.proofs.Math.Dec.{eqb}
use Rattle.std.proofs.Math.ListN.{take}
use Rattle.std.proofs.Math.Seq.{take_at}
use borrow.Author.Tests.{eqb-true, eqb-false}
use Rattle.replies.specs.Replies.{Said, refused, accepted, Check, run, outcome}
use Rattle.replies.specs.RepliesLaws.{never_says}
use Rattle.ground.specs.declared.Rectangle.{Rectangle}
use Rattle.ground.specs.declared.Cell.{Cell}
use Rattle.ground.specs.Cells.{IsCell}
use Rattle.code.specs.declared.Fields.{Fields}
use Rattle.code.specs.Code.{code_of}
use Rattle.code.specs.WritingLaws.{code_twenty}
use Rattle.corners.specs.Corners.{corners_of}
use Rattle.boundary.specs.Boundary.{inside}
use Rattle.boundary.specs.Listed.{boundary_of}
use Rattle.chosen.specs.Chosen.{Chosen, Over}
use Rattle.chosen.proofs.ChosenLaws.{choose_chosen, choose_none, none_choose}
use Rattle.unit.specs.declared.Kind.{Kind}
use Rattle.unit.specs.Extents.{extremes_of}
use Rattle.unit.specs.ExtentsLaws.{over_range}
use Rattle.unit.specs.Unit.{fields_of, code_at, chosen_cell, cell_check, coding}
use Rattle.unit.specs.Frame.{first_checks}
use Rattle.unit.specs.CheckLaws.{entered, first_refuses, first_accepts}
use Rattle.unit.specs.Cover as cover

-- No cell of levels 9 to 27 is inside the boundary of the caller's numbers
abbrev pub NoneInside : List ℕ → Type 0
NoneInside numbers = (c : Cell) → IsCell c → T (inside (boundary_of numbers) c) → ⊥

-- There is a chosen cell, and bytes 0 to 19 of the room are the code of the fields from it
pub record CodeOfChosen (numbers : List ℕ) (number : ℕ) (later : List ℕ) : Type 0 where
  pub cell : Cell
  pub chosen : Chosen (boundary_of numbers) cell
  pub written : take 20 later ≡ code_of (fields_of (extremes_of (corners_of numbers)) number cell)

-- The checks before a cell is looked for pass
abbrev pub Checked : List ℕ → List ℕ → Kind → ℕ → Type 0
Checked room numbers kind number = (run (first_checks (length room) numbers kind number)).number ≡ 0

-- Demand 2: what coding accepts has the code of its chosen cell; where it refuses 7, the checks before a cell is looked for pass and no
-- cell is inside; and where they pass and none is, it refuses 7
pub record AsDemanded (room numbers : List ℕ) (kind : Kind) (number : ℕ) : Type 0 where
  pub accepts : (coding room numbers kind number).said ≡ accepted → CodeOfChosen numbers number (coding room numbers kind number).room
  pub refuses : (coding room numbers kind number).said.number ≡ 7 → Checked room numbers kind number × NoneInside numbers
  pub only : Checked room numbers kind number → NoneInside numbers → (coding room numbers kind number).said ≡ refused 7 0

-- Check 7 says 7 where there is no cell alone
seven_nowhere : (choice : Option Cell) → (run (cell_check choice)).number ≡ 7 → choice ≡ None
seven_nowhere (Some c) e = let none : ⊥ = omega arith in absurd none
seven_nowhere None e = refl

module _ (room numbers : List ℕ) (kind : Kind) (number : ℕ) where
  abbrev choice : Option Cell
  choice = chosen_cell (corners_of numbers)

  -- Bytes 0 to 19 of the room, where coding accepts
  pub code_told : (coding room numbers kind number).said ≡ accepted
      → take 20 (coding room numbers kind number).room ≡ code_at (extremes_of (corners_of numbers)) number choice
  unfolding coding
  code_told e =
      let c = cover.coded room numbers kind number e in
      let r : Rectangle = extremes_of (corners_of numbers) in
      let f : Fields = fields_of r number c.cell in
      ap₂ (λ (said : Said) (choice : Option Cell). take 20 (outcome said (code_at r number choice) room).room) e c.chosen
      ∙ take_at (code_of f) (drop 20 room) 20 (code_twenty f)
      ∙ ap (code_at r number) (sym c.chosen)

  -- A search takes for granted what it may, where those checks pass
  pub over : Checked room numbers kind number → Over (extremes_of (corners_of numbers)) (boundary_of numbers)
  over e = over_range (corners_of numbers) (entered (length room) numbers kind number e).ground.range

  accepts : (coding room numbers kind number).said ≡ accepted → CodeOfChosen numbers number (coding room numbers kind number).room
  accepts e =
      let c = cover.coded room numbers kind number e in
      record {
        cell = c.cell;
        chosen = choose_chosen (over_range (corners_of numbers) c.passing.ground.range) c.chosen;
        written = code_told e ∙ ap (code_at (extremes_of (corners_of numbers)) number) c.chosen;
      }

  abbrev firsts : List Check
  firsts = first_checks (length room) numbers kind number

  -- They say another number than 7
  firsts_other : (run firsts).number ≡ 7 → ⊥
  unfolding first_checks
  firsts_other = never_says 7 (omega arith) firsts tt

  refuses : (coding room numbers kind number).said.number ≡ 7 → Checked room numbers kind number × NoneInside numbers
  unfolding coding
  refuses e = at (eqb (run firsts).number 0) refl
    where
      at : (b : Bool) → eqb (run firsts).number 0 ≡ b → Checked room numbers kind number × NoneInside numbers
      at true k =
          let pass = eqb-true (run firsts).number 0 k in
          let last = ap (λ (s : Said). s.number) (first_accepts (length room) numbers kind number pass) in
          let none = seven_nowhere choice (sym last ∙ e) in
          (pass, choose_none (over pass) none)
      at false k =
          let first = ap (λ (s : Said). s.number) (first_refuses (length room) numbers kind number (eqb-false (run firsts).number 0 k)) in
          absurd (firsts_other (sym first ∙ e))

  only : Checked room numbers kind number → NoneInside numbers → (coding room numbers kind number).said ≡ refused 7 0
  unfolding coding
  only pass none =
      first_accepts (length room) numbers kind number pass
      ∙ ap (λ (c : Option Cell). run (cell_check c)) (none_choose (over pass) none)

  -- Demand 2 holds of coding
  pub as_demanded : AsDemanded room numbers kind number
  as_demanded = record { accepts = accepts; refuses = refuses; only = only }
