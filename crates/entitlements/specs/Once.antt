-- No second answer satisfies the promise of a message: each case of an answer is found back from what it says. Assumes nothing.
use Rattle.std.specs.Prelude.{ℕ, ◌+◌, ◌≡◌, refl, [], ◌∷◌, length, get_or}
use Rattle.std.proofs.Common.{ap}
use Rattle.facts.specs.Once.{said_once, sought}
use Rattle.entitlements.specs.declared.Account.{Account}
use Rattle.entitlements.specs.declared.Answer.{Answer}
use Rattle.entitlements.specs.declared.Answer.TheVariants as answer
use Rattle.entitlements.specs.declared.Answered.{Answered}
use Rattle.entitlements.specs.Entitlements.{Answering, says, Done, does}

-- An answer is known by its number, by how many letters its words have, and by the second of them
abbrev mark : Answering → ℕ
mark a = a.number + length a.words + get_or a.words 1 0

abbrev answer_by : Answering → Answer
answer_by a =
    sought (λ b. mark (says b)) (mark a) answer.Activated
    (answer.Already ∷ answer.Cancelled ∷ answer.NotActive ∷ answer.Old ∷ answer.Account ∷ answer.Number ∷ answer.Code ∷ answer.Full ∷ [])

answer_found : (a : Answer) → answer_by (says a) ≡ a
answer_found answer.Activated = refl
answer_found answer.Already = refl
answer_found answer.Cancelled = refl
answer_found answer.NotActive = refl
answer_found answer.Old = refl
answer_found answer.Account = refl
answer_found answer.Number = refl
answer_found answer.Code = refl
answer_found answer.Full = refl

abbrev answered_of : Answer → Account → Answered
answered_of answer account = record { answer = answer; account = account }

-- Two answers that meet the promise of a message are the same, and so are the accounts afterwards
pub message_once : (d : Done) (r s : Answered) → does r ≡ d → does s ≡ d → r ≡ s
message_once d r s =
    said_once does (λ e. answered_of (answer_by e.answer) e.account) (λ a. ap (λ (b : Answer). answered_of b a.account) (answer_found a.answer))
    r s
