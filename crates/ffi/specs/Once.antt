-- No second reply satisfies the promise of coding, writing, reading, recording or a look at a page: each reply is found back from what it
-- says. Assumes nothing.
use Rattle.std.specs.Prelude.{ℕ, ◌≡◌, refl, List}
use Rattle.std.proofs.Common.{ap}
use Rattle.replies.specs.Replies.{Said, Outcome}
use Rattle.facts.specs.Once.{once, said_once}
use Rattle.code.specs.Code.{Told}
use Rattle.page.specs.Page.{Found}
use Rattle.ffi.specs.declared.Reply.{Reply}
use Rattle.ffi.specs.declared.Reading.{Reading}
use Rattle.ffi.specs.declared.Looked.{Looked}
use Rattle.ffi.specs.Replies.{said, leaves, tells, looked_of}

abbrev reply_by : Said → Reply
reply_by s = record { number = s.number; place = s.place }

abbrev reading_by : Told → Reading
reading_by t = record { reply = reply_by t.said; fields = t.fields; rectangle = t.rectangle }

-- Two replies and rooms that meet the promise of coding or writing, or pages that meet that of recording, are the same
pub leaves_once : (o : Outcome) (r s : Reply) (room other : List ℕ) → leaves r room ≡ o → leaves s other ≡ o → (r ≡ s) × (room ≡ other)
leaves_once o r s room other e k = (
  said_once said reply_by (λ a. refl) r s (ap (λ (p : Outcome). p.said) e) (ap (λ (p : Outcome). p.said) k),
  once (ap (λ (p : Outcome). p.room) e) (ap (λ (p : Outcome). p.room) k),
)

-- Two replies that meet the promise of reading are the same
pub tells_once : (t : Told) (r s : Reading) → tells r ≡ t → tells s ≡ t → r ≡ s
tells_once t r s = said_once tells reading_by (λ a. refl) r s

-- Two answers that meet the promise of a look are the same
pub looked_once : (f : Found) (r s : Looked) → r ≡ looked_of f → s ≡ looked_of f → r ≡ s
looked_once f r s e k = once e k
