-- Long tails get a code (document 02, request 2): a unit that the checks before a cell is looked for accept is coded where a cell is inside,
-- however far it reaches from there; what 8 was for never holds of such a cell, and 8 never occurs. Assumes nothing.
use Rattle.std.specs.Prelude.{ℕ, Option, Some, None, ◌≡◌, List, T, length}
use Rattle.std.proofs.Common.{arith, ◌∙◌}
use Rattle.std.proofs.Math.Path.{refl}
use Rattle.facts.specs.Tests.{true_of}
use Rattle.replies.specs.Replies.{accepted, run}
use Rattle.replies.specs.RepliesLaws.{never_says}
use Rattle.ground.specs.declared.Cell.{Cell}
use Rattle.ground.specs.Cells.{IsCell}
use Rattle.code.specs.WritingLaws.{Good}
use Rattle.corners.specs.Corners.{corners_of}
use Rattle.boundary.specs.Boundary.{inside}
use Rattle.boundary.specs.Listed.{boundary_of}
use Rattle.chosen.proofs.ChosenLaws.{choose_none}
use Rattle.unit.specs.declared.Kind.{Kind}
use Rattle.unit.specs.Extents.{extremes_of}
use Rattle.unit.specs.Unit.{fields_of, chosen_cell, cell_check, corner_checks, code_checks, coding}
use Rattle.unit.specs.CheckLaws.{Grounded, entered, first_accepts}
use Rattle.unit.specs.TailsLaws.{Fits}
use Rattle.unit.specs.Cover.{fields_good}
use Rattle.demands.specs.Coded.{Checked, over}

-- A unit inside which some cell is gets a code; no span from such a cell is above 31, and the scale is 14 to 27; and 8 is never said
pub record LongTails (room numbers : List ℕ) (kind : Kind) (number : ℕ) : Type 0 where
  pub coded : Checked room numbers kind number → (c : Cell) → IsCell c → T (inside (boundary_of numbers) c)
      → (coding room numbers kind number).said ≡ accepted
  pub fits : Checked room numbers kind number → (c : Cell) → IsCell c → T (inside (boundary_of numbers) c)
      → Fits (fields_of (extremes_of (corners_of numbers)) number c)
  pub never : (coding room numbers kind number).said.number ≡ 8 → ⊥

module _ (room numbers : List ℕ) (kind : Kind) (number : ℕ) where
  coded : Checked room numbers kind number → (c : Cell) → IsCell c → T (inside (boundary_of numbers) c)
      → (coding room numbers kind number).said ≡ accepted
  unfolding coding
  coded pass c is t = first_accepts (length room) numbers kind number pass ∙ at (chosen_cell (corners_of numbers)) refl
    where
      at : (choice : Option Cell) → chosen_cell (corners_of numbers) ≡ choice → run (cell_check choice) ≡ accepted
      at (Some d) e = refl
      at None e = absurd (choose_none (over room numbers kind number pass) e c is t)

  fits : Checked room numbers kind number → (c : Cell) → IsCell c → T (inside (boundary_of numbers) c)
      → Fits (fields_of (extremes_of (corners_of numbers)) number c)
  fits pass c is t =
      let h = entered (length room) numbers kind number pass in
      let good : Good (fields_of (extremes_of (corners_of numbers)) number c) =
      let ground : Grounded (corners_of numbers) = h.ground in
      fields_good (record { ground = ground; most = h.most; cell = is; within = true_of (inside (boundary_of numbers) c) t }) in
      record {
        least = good.scale.0;
        most = good.scale.1;
        spans = record { east = good.east.1; west = good.west.1; south = good.south.1; north = good.north.1 };
      }

  never : (coding room numbers kind number).said.number ≡ 8 → ⊥
  unfolding coding corner_checks
  never = never_says 8 (omega arith) (code_checks (length room) numbers kind number) tt

  -- Request 2 holds of coding
  pub long_tails : LongTails room numbers kind number
  long_tails = record { coded = coded; fits = fits; never = never }
