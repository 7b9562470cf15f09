-- Replies in numbers (document 01, "Replies"), as other languages take them: what each struct of this crate says, in the terms of the
-- definitions of coding, reading, writing, and the journal page. Assumes nothing.
use Rattle.std.specs.Prelude.{ℕ, List, Some, None, Ok, Err}
use Rattle.replies.specs.Replies.{Said, Outcome}
use Rattle.code.specs.Code.{Told}
use Rattle.entitlements.specs.Entitlements.{letter_of}
use Rattle.page.specs.Page.{Found}
use Rattle.page.specs.declared.LookError.TheVariants as look
use Rattle.ffi.specs.declared.Reply.{Reply}
use Rattle.ffi.specs.declared.Reading.{Reading}
use Rattle.ffi.specs.declared.Looked.{Looked}

-- What a reply says
abbrev pub said : Reply → Said
said r = record { number = r.number; place = r.place }

-- What coding, writing or recording leaves, from its reply and the room or the page
abbrev pub leaves : Reply → List ℕ → Outcome
leaves r room = record { said = said r; room = room }

-- What a reading tells
abbrev pub tells : Reading → Told
tells r = record { said = said r.reply; fields = r.fields; rectangle = r.rectangle }

-- What a look answers, by its parts
abbrev pub looked_by : ℕ → ℕ → ℕ → Looked
looked_by answer letter number = record { answer = answer; letter = letter; number = number }

-- for each case of what is found: 0 with the letter and the number of a record, 1 at the end, and a refusal by its own number
abbrev pub looked_of : Found → Looked
looked_of (Ok (Some r)) = looked_by 0 (letter_of r.kind) r.number
looked_of (Ok None) = looked_by 1 0 0
looked_of (Err look.Cut) = looked_by 52 0 0
looked_of (Err look.Mark) = looked_by 53 0 0
looked_of (Err look.Content) = looked_by 54 0 0
