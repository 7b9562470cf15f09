-- Laws of replies in numbers: what the crates below answer, put into numbers, says the same. Assumes nothing.
use Rattle.std.specs.Prelude.{ℕ, ◌+◌, ◌≡◌, refl, List, take, drop, Result, Some, None, Ok, Err}
use Rattle.std.proofs.Common.{arith, ap, ap₂, ◌∙◌, sym}
use Rattle.replies.specs.Replies.{Said, refused, Outcome}
use Rattle.ground.specs.declared.Rectangle.{Rectangle}
use Rattle.code.specs.declared.Fields.{Fields}
use Rattle.code.specs.declared.WriteError.{WriteError}
use Rattle.code.specs.declared.WriteError.TheVariants as written
use Rattle.code.specs.declared.Reading.{Reading}
use Rattle.code.specs.declared.ReadError.{ReadError}
use Rattle.code.specs.Code as of_code
use Rattle.entitlements.specs.Entitlements.{letter_of}
use Rattle.page.specs.declared.RecordError.TheVariants as recorded
use Rattle.page.specs.declared.Record.{Record}
use Rattle.page.specs.declared.LookError.TheVariants as look
use Rattle.page.specs.Page as page
use Rattle.ffi.specs.declared.Reply.{Reply}
use Rattle.ffi.specs.Replies.{said, leaves, tells, looked_by, looked_of}

-- A reply by its two numbers
pub says_both : {n p : ℕ} (s : Said) → n ≡ s.number → p ≡ s.place → said (record { number = n; place = p }) ≡ s
says_both s e k = ap₂ refused e k

abbrev leaving : Said → List ℕ → Outcome
leaving s room = record { said = s; room = room }

abbrev telling : Said → Fields → Rectangle → of_code.Told
telling s f r = record { said = s; fields = f; rectangle = r }

-- A reply without a place, from the answer's number, says what an answer says that names none
pub leaves_nowhere : (s : Said) {o : Outcome} {r : Reply} {n : ℕ} {room : List ℕ} → s.place ≡ 0 → leaving s room ≡ o → n ≡ s.number
    → said r ≡ refused n 0 → leaves r room ≡ o
leaves_nowhere s {room = room} none p e k = ap (λ (t : Said). leaving t room) (k ∙ says_both s e (sym none)) ∙ p

-- Writing names no place
pub writing_nowhere : (w : Result (Unit {0}) WriteError) → (of_code.says w).place ≡ 0
writing_nowhere (Ok _) = refl
writing_nowhere (Err written.Output) = refl
writing_nowhere (Err written.Reference) = refl
writing_nowhere (Err written.Scale) = refl
writing_nowhere (Err written.Span) = refl
writing_nowhere (Err written.Number) = refl

-- What writing leaves: the place is always 0
pub write_leaves : (w : Result (Unit {0}) WriteError) (o : Outcome) {n : ℕ} {room : List ℕ} → of_code.leaves w room ≡ o → n ≡ (of_code.says w).number
    → leaves (record { number = n; place = 0 }) room ≡ o
write_leaves w o {n} {room} p e = ap (λ (s : Said). leaving s room) (says_both (of_code.says w) e (sym (writing_nowhere w))) ∙ p

-- and recording does not
pub recording_nowhere : (w : page.Written) → (page.says w).place ≡ 0
recording_nowhere (Ok _) = refl
recording_nowhere (Err recorded.Number) = refl
recording_nowhere (Err recorded.Code) = refl
recording_nowhere (Err recorded.Short) = refl

-- What reading tells, where it accepts
pub accepts : (a : Result Reading ReadError) {read : Reading} → a ≡ Ok read → {n p : ℕ} → n ≡ (of_code.tells a).said.number
    → p ≡ (of_code.tells a).said.place → tells (record { reply = record { number = n; place = p }; fields = read.fields; rectangle = read.rectangle }) ≡ of_code.tells a
accepts a {read} seen e k =
    let told = says_both (of_code.tells a).said e k ∙ ap (λ (b : Result Reading ReadError). (of_code.tells b).said) seen in
    ap (λ (s : Said). telling s read.fields read.rectangle) told ∙ ap of_code.tells (sym seen)

-- A look at a record
pub record_looked : {f : page.Found} {r : Record} → f ≡ Ok (Some r) → {l : ℕ} → l ≡ letter_of r.kind → looked_by 0 l r.number ≡ looked_of f
record_looked {f} {r} e k = ap (λ (l : ℕ). looked_by 0 l r.number) k ∙ ap looked_of (sym e)

-- A look that answers 0 found a record, whose code is the twenty bytes from three bytes after the offset on
pub looked_code : (bytes : List ℕ) (offset : ℕ) → (looked_of (page.look_at bytes offset)).answer ≡ 0
    → page.code_at bytes offset ≡ take 20 (drop (offset + 3) bytes)
looked_code bytes offset e = own (page.look_at bytes offset) e
  where
    own : (f : page.Found) → (looked_of f).answer ≡ 0
        → page.where_found f (take 20 (drop (offset + 3) bytes)) ≡ take 20 (drop (offset + 3) bytes)
    own (Ok (Some r)) k = refl
    own (Ok None) k = absurd (omega arith)
    own (Err look.Cut) k = absurd (omega arith)
    own (Err look.Mark) k = absurd (omega arith)
    own (Err look.Content) k = absurd (omega arith)
