-- No second answer satisfies the promise of writing or of reading: each case of an answer is found back from what it says.
-- Assumes nothing.
use Rattle.std.specs.Prelude.{ℕ, ◌≡◌, refl, List, [], ◌∷◌, Result, Ok, Err}
use Rattle.std.proofs.Common.{ap}
use Rattle.replies.specs.Replies.{Said, Outcome}
use Rattle.facts.specs.Once.{once, said_once, sought}
use Rattle.code.specs.declared.WriteError.{WriteError}
use Rattle.code.specs.declared.WriteError.TheVariants as writes
use Rattle.code.specs.declared.Reading.{Reading}
use Rattle.code.specs.declared.ReadError.{ReadError}
use Rattle.code.specs.declared.ReadError.TheVariants as reads
use Rattle.code.specs.Code.{says, leaves, Told, tells}

abbrev written_by : Said → Result (Unit {0}) WriteError
written_by s =
    sought (λ w. (says w).number) s.number (Ok tt)
    (Err writes.Output ∷ Err writes.Reference ∷ Err writes.Scale ∷ Err writes.Span ∷ Err writes.Number ∷ [])

written_found : (w : Result (Unit {0}) WriteError) → written_by (says w) ≡ w
written_found (Ok done) = refl
written_found (Err writes.Output) = refl
written_found (Err writes.Reference) = refl
written_found (Err writes.Scale) = refl
written_found (Err writes.Span) = refl
written_found (Err writes.Number) = refl

abbrev reading_by : Told → Result Reading ReadError
reading_by t =
    sought (λ r. (tells r).said.number) t.said.number (Ok (record { fields = t.fields; rectangle = t.rectangle }))
    (Err reads.Length ∷ Err (reads.Letter t.said.place) ∷ Err reads.Closing ∷ Err reads.Hemisphere ∷ Err reads.Degrees ∷ Err reads.Sixty
    ∷ Err reads.Scale ∷ Err reads.Span ∷ [])

reading_found : (r : Result Reading ReadError) → reading_by (tells r) ≡ r
reading_found (Ok read) = refl
reading_found (Err reads.Length) = refl
reading_found (Err (reads.Letter p)) = refl
reading_found (Err reads.Closing) = refl
reading_found (Err reads.Hemisphere) = refl
reading_found (Err reads.Degrees) = refl
reading_found (Err reads.Sixty) = refl
reading_found (Err reads.Scale) = refl
reading_found (Err reads.Span) = refl

-- Two answers and rooms that meet the promise of writing are the same
pub writing_once : (o : Outcome) (w v : Result (Unit {0}) WriteError) (room other : List ℕ) → leaves w room ≡ o → leaves v other ≡ o
    → (w ≡ v) × (room ≡ other)
writing_once o w v room other e k = (
  said_once says written_by written_found w v (ap (λ (p : Outcome). p.said) e) (ap (λ (p : Outcome). p.said) k),
  once (ap (λ (p : Outcome). p.room) e) (ap (λ (p : Outcome). p.room) k),
)

-- Two answers that meet the promise of reading are the same
pub reading_once : (t : Told) (r s : Result Reading ReadError) → tells r ≡ t → tells s ≡ t → r ≡ s
reading_once t r s = said_once tells reading_by reading_found r s
