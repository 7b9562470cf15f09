-- The mission's demand 3 between the two roads: what each road leaves, by its own promise, is the same for lists of one ground. Each list
-- has a room of its own. Assumes nothing.
use Rattle.std.specs.Prelude.{ℕ, Result, Ok, Err, ◌≡◌, refl, List, take}
use Rattle.std.proofs.Common.{arith, ap, sym, ◌∙◌}
use Rattle.replies.specs.Replies.{accepted, run, Outcome}
use Rattle.corners.specs.Corners.{corners_of}
use Rattle.boundary.specs.Changes.{SameGround}
use Rattle.unit.specs.declared.Kind.{Kind}
use Rattle.unit.specs.declared.Refusal.{Refusal}
use Rattle.unit.specs.declared.Refusal.TheVariants as refusal
use Rattle.unit.specs.Extents.{extremes_of}
use Rattle.unit.specs.Unit.{code_at, chosen_cell, corner_checks, coding}
use Rattle.unit.specs.Frame.{says, leaves}
use Rattle.unit.specs.SameGround.{Counted, number_same, code_same}
use Rattle.demands.specs.Coded.{code_told}

-- The same code or the same refusal number: the numbers are the same, and where they are 0 so are bytes 0 to 19 of the two rooms
abbrev pub SameAnswer : Result (Unit {0}) Refusal → List ℕ → Result (Unit {0}) Refusal → List ℕ → Type 0
SameAnswer quick one plain other = ((says quick).number ≡ (says plain).number) × ((says quick).number ≡ 0 → take 20 one ≡ take 20 other)

-- The number 0 is acceptance's alone
zero_accepts : (a : Result (Unit {0}) Refusal) → (says a).number ≡ 0 → says a ≡ accepted
zero_accepts (Ok _) e = refl
zero_accepts (Err refusal.Output) e = absurd (omega arith)
zero_accepts (Err refusal.Pairs) e = absurd (omega arith)
zero_accepts (Err refusal.Corners) e = absurd (omega arith)
zero_accepts (Err (refusal.Range corner)) e = absurd (omega arith)
zero_accepts (Err refusal.Extent) e = absurd (omega arith)
zero_accepts (Err (refusal.Crossed corner)) e = absurd (omega arith)
zero_accepts (Err refusal.Number) e = absurd (omega arith)
zero_accepts (Err refusal.NoCell) e = absurd (omega arith)

module _ (kind : Kind) (number : ℕ) where
  -- The number of coding, where checks 1 to 3 pass, is told by the corners
  number_told : (room numbers : List ℕ) → Counted room numbers
      → (coding room numbers kind number).said.number ≡ (run (corner_checks (corners_of numbers) kind number)).number
  unfolding coding
  number_told room numbers h = rw (h.long, h.even, h.corners)

  -- Demand 3, from the promises of the two roads
  pub same_answer_lem : (one numbers other others one_later other_later : List ℕ) (quick plain : Result (Unit {0}) Refusal)
      → leaves quick one_later ≡ coding one numbers kind number
      → leaves plain other_later ≡ coding other others kind number
      → Counted one numbers
      → Counted other others
      → SameGround (corners_of numbers) (corners_of others)
      → SameAnswer quick one_later plain other_later
  same_answer_lem one numbers other others one_later other_later quick plain promise pledge h k g =
      let said : (says quick).number ≡ (says plain).number =
      ap (λ (o : Outcome). o.said.number) promise ∙ number_told one numbers h ∙ number_same g kind number
      ∙ sym (number_told other others k) ∙ sym (ap (λ (o : Outcome). o.said.number) pledge) in (
        said,
        λ zero. written one numbers one_later quick promise zero ∙ code_same g number
            ∙ sym (written other others other_later plain pledge (sym said ∙ zero)),
      )
    where
      written : (room numbers later : List ℕ) (a : Result (Unit {0}) Refusal) → leaves a later ≡ coding room numbers kind number → (says a).number ≡ 0
          → take 20 later ≡ code_at (extremes_of (corners_of numbers)) number (chosen_cell (corners_of numbers))
      written room numbers later a promise zero =
          ap (λ (o : Outcome). take 20 o.room) promise
          ∙ code_told room numbers kind number (sym (ap (λ (o : Outcome). o.said) promise) ∙ zero_accepts a zero)
