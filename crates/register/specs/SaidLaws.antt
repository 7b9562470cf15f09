-- The laws of what is said of a unit: a code or a refusal, by the answer of a road. Assumes nothing.
use Rattle.std.specs.Prelude.{Result, ◌≡◌, ℕ, List, replicate, ◌≢◌}
use Rattle.std.proofs.Common.{sym, ◌∙◌, eq-eqb, ne_eqb}
use Rattle.std.proofs.Math.Path.{ap}
use Rattle.unit.specs.declared.Refusal.{Refusal}
use Rattle.unit.specs.declared.Kind.{Kind}
use Rattle.unit.specs.Unit.{kind_of, coding}
use Rattle.unit.specs.Frame.{says, leaves}
use Rattle.lines.specs.Lines.{coded, refused}
use Rattle.register.specs.Said.{reply_of, code_said}

-- from an answer that keeps the promise of coding, in a room of twenty bytes, for the kind of a letter
module _ (letter number : ℕ) (coordinates : List ℕ) (a : Result (Unit {0}) Refusal) {kind : Kind} {later : List ℕ} (its : kind ≡ kind_of letter)
    (so : leaves a later ≡ coding (replicate 20 0) coordinates kind number) where
  said_as : code_said letter number coordinates ≡ reply_of (leaves a later)
  unfolding code_said
  said_as = ap reply_of (sym (so ∙ ap (λ (k : Kind). coding (replicate 20 0) coordinates k number) its))

  pub said_code : (says a).number ≡ 0 → code_said letter number coordinates ≡ coded later
  said_code e = said_as ∙ rw (eq-eqb (says a).number 0 e)

  pub said_refused : ((says a).number ≢ 0) → code_said letter number coordinates ≡ refused (says a).number (says a).place
  said_refused n = said_as ∙ rw (ne_eqb (says a).number 0 n)
