-- No second answer meets the contracts of `page`: of writing each case is found back from what it says; those of reading are equations of the
-- answer itself. Assumes nothing.
use Rattle.std.specs.Prelude.{ℕ, ◌≡◌, refl, List, [], ◌∷◌, Ok, Err}
use Rattle.std.proofs.Common.{ap}
use Rattle.facts.specs.Once.{once, said_once, sought}
use Rattle.replies.specs.Replies.{Said, Outcome}
use Rattle.page.specs.declared.RecordError.TheVariants as write
use Rattle.page.specs.Page.{Written, Found, says, leaves, code_at}

abbrev written_by : Said → Written
written_by s = sought (λ w. (says w).number) s.number (Ok tt) (Err write.Number ∷ Err write.Code ∷ Err write.Short ∷ [])

written_back : (w : Written) → written_by (says w) ≡ w
written_back (Ok tt) = refl
written_back (Err write.Number) = refl
written_back (Err write.Code) = refl
written_back (Err write.Short) = refl

-- Two answers and pages that meet the promise of `write_record` or of `write_at` are the same
pub written_once : (o : Outcome) (w v : Written) (page other : List ℕ) → leaves w page ≡ o → leaves v other ≡ o → (w ≡ v) × (page ≡ other)
written_once o w v page other e k = (
  said_once says written_by written_back w v (ap (λ (p : Outcome). p.said) e) (ap (λ (p : Outcome). p.said) k),
  once (ap (λ (p : Outcome). p.room) e) (ap (λ (p : Outcome). p.room) k),
)

-- Two answers that meet the promise of `look` are the same, as of `look_by`
pub look_once : (f a b : Found) → a ≡ f → b ≡ f → a ≡ b
look_once f a b = once

-- and two texts that meet that of `code_at`
pub code_once : (page : List ℕ) (offset : ℕ) (a b : List ℕ) → a ≡ code_at page offset → b ≡ code_at page offset → a ≡ b
code_once page offset a b = once
