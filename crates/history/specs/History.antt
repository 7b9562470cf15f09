-- The history of an account (document 02, requests 3 and 5), in the requests' words: messages sent one by one, what they were answered, and
-- what is said to hold after any of them from empty. HistoryLaws.antt proves it. Assumes nothing.
use Rattle.std.specs.Prelude.{ℕ, ◌+◌, ◌-◌, ◌≤◌, ◌<◌, ◌≡◌, ◌≢◌, Bool, true, false, cond, not, ◌&&◌, List, [], ◌∷◌, eqb}
use Rattle.facts.specs.Lists.{Each}
use Rattle.facts.specs.Texts.{bytes, same_text}
use Rattle.halves.specs.declared.Halves.{Halves}
use Rattle.halves.specs.Halves.{halves_in, same_code, is_code}
use Rattle.places.specs.Places.{places, count_active}
use Rattle.entitlements.specs.declared.Account.{Account}
use Rattle.entitlements.specs.declared.Answered.{Answered}
use Rattle.entitlements.specs.declared.Kind.{Kind}
use Rattle.entitlements.specs.declared.Kind.TheVariants.{Activate, Cancel}
use Rattle.entitlements.specs.Entitlements.{code_at, active_at, is_active, Answering, says, Done, does, largest, message}

-- ---- messages sent one by one

-- "two messages, activate and cancel, each with a code and a message number"
pub record Message : Type 0 where
  pub kind : Kind
  pub text : List ℕ
  pub number : ℕ

-- What a message does to an account
abbrev pub send : Account → Message → Done
send account m = message m.kind account m.text m.number

-- "the whole account is handed in and handed back": the account after messages
abbrev pub after : Account → List Message → Account
after account [] = account
after account (m ∷ later) = after (send account m).account later

-- A message with its answer
pub record Sent : Type 0 where
  pub message : Message
  pub answer : Answering

-- by the two
abbrev pub sent_by : Message → Answering → Sent
sent_by m answer = record { message = m; answer = answer }

-- Messages with their answers
abbrev pub sent : Account → List Message → List Sent
sent account [] = []
sent account (m ∷ later) = sent_by m (send account m).answer ∷ sent (send account m).account later

-- ---- what was processed

-- An activation
abbrev pub is_activation : Kind → Bool
is_activation Activate = true
is_activation Cancel = false

-- "processed .., with "full" ones passed over": the number was used up, and the answer is not 43
abbrev pub counts : Answering → Bool
counts answer = answer.uses && not (eqb answer.number 43)

-- and the message was of this code
abbrev pub concerns : Halves → Sent → Bool
concerns code s = counts s.answer && same_code (halves_in s.message.text) code

-- Whether the "latest processed activation or cancellation" of a code "was an activation", and what is told where there is none
abbrev pub latest : Halves → Bool → List Sent → Bool
latest code before [] = before
latest code before (s ∷ later) = latest code (cond (concerns code s) (is_activation s.message.kind) before) later

-- The latest number used up, and what is told where there is none
abbrev pub latest_number : ℕ → List Sent → ℕ
latest_number before [] = before
latest_number before (s ∷ later) = latest_number (cond s.answer.uses s.message.number before) later

-- ---- how often an answer came

-- 1 for an answer in these words, 0 for any other
abbrev pub one : List ℕ → Answering → ℕ
one words answer = cond (same_text answer.words words) 1 0

-- How many answers came in these words
abbrev pub times : List ℕ → List Sent → ℕ
times words [] = 0
times words (s ∷ later) = one words s.answer + times words later

-- ---- what is said

-- "Over any messages from empty": what holds of the account after messages, any texts and any numbers with the refused among them, and
-- of these with their answers
pub record Kept (account : Account) (all : List Sent) : Type 0 where
  -- "the active codes are exactly those whose latest processed activation or cancellation, with "full" ones passed over, was an activation"
  pub active : (code : Halves) → is_active account code ≡ latest code false all
  -- "From an empty account it equals the full count after every message, refused ones too"
  pub total : account.total ≡ count_active account.active
  -- "and their number is the "activated" answers less the "cancelled" ones": of which there are no more
  pub number : account.total ≡ times (bytes "activated") all - times (bytes "cancelled") all
  pub fewer : times (bytes "cancelled") all ≤ times (bytes "activated") all
  -- No code is active at two places
  pub single : (i j : ℕ) → i < places → j < places → active_at account i ≡ true → active_at account j ≡ true
      → code_at account i ≡ code_at account j → i ≡ j
  -- An active place has a code that reading accepts
  pub read : (i : ℕ) → i < places → active_at account i ≡ true → is_code (code_at account i) ≡ true
  -- The last number is the latest used up, and not too large
  pub last : account.last ≡ latest_number 0 all
  pub within : account.last ≤ largest
  -- 40 never comes
  pub not_40 : Each (λ (s : Sent). s.answer.number ≢ 40) all

-- ---- through the functions

-- What `message::activate` and `message::cancel` hand back, one by one: each keeps the promise for the account that the one before
-- handed back
pub data Handed : Account → List Message → List Answered → Type 0 where
  nothing : {account : Account} → Handed account [] []
  handed : {account : Account} {m : Message} {later : List Message} {r : Answered} {replies : List Answered} → does r ≡ send account m
      → Handed r.account later replies → Handed account (m ∷ later) (r ∷ replies)

-- The account that the last of them handed back
abbrev pub last_account : Account → List Answered → Account
last_account account [] = account
last_account account (r ∷ replies) = last_account r.account replies

-- The messages with what the functions answered
abbrev pub told : List Message → List Answered → List Sent
told [] replies = []
told (m ∷ later) [] = []
told (m ∷ later) (r ∷ replies) = sent_by m (says r.answer) ∷ told later replies
