-- The account of entitlements (document 02, requests 3 and 5), in the requests' words: what an account keeps, what is active, what
-- messages answer and what they leave. Assumes nothing.
use Rattle.std.specs.Prelude.{ℕ, suc, ◌-◌, ◌≡◌, refl, Bool, true, false, cond, not, ◌&&◌, ◌||◌, List, [], ◌∷◌, eqb, leb, ltb, replicate, set}
use Prim.Native.Char.{code}
use Rattle.facts.specs.Texts.{bytes}
use Rattle.halves.specs.declared.Halves.{Halves}
use Rattle.halves.specs.Halves.{halves_by, halves_in, readable, is_code}
use Rattle.places.specs.Places.{places, is_free, active_on, code_on, holds, lowest_place, count_active}
use Rattle.entitlements.specs.declared.Account.{Account}
use Rattle.entitlements.specs.declared.Kind.{Kind}
use Rattle.entitlements.specs.declared.Kind.TheVariants.{Activate, Cancel}
use Rattle.entitlements.specs.declared.Answer.{Answer}
use Rattle.entitlements.specs.declared.Answer.TheVariants as answer
use Rattle.entitlements.specs.declared.Answered.{Answered}

-- ---- What an account keeps

-- An account by its arrays, its last number and, "Keep the total in the account", its total
abbrev pub account_of : List ℕ → List ℕ → List ℕ → ℕ → ℕ → Account
account_of high low active last total = record { high = high; low = low; active = active; last = last; total = total }

-- "An empty account has 256 free places and a last number of 0", and a total of 0
abbrev pub empty : Account
empty = account_of (replicate places 0) (replicate places 0) (replicate places 0) 0 0

-- "Asking answers the kept total"
abbrev pub total_of : Account → ℕ
total_of account = account.total

-- ---- What is active

-- What a place holds: a code by its halves
abbrev pub code_at : Account → ℕ → Halves
code_at account i = code_on account.high account.low i

-- Whether a place is active
abbrev pub active_at : Account → ℕ → Bool
active_at account i = active_on account.active i

-- The place of an active code, 256 where the code is not active
abbrev pub place_of : Account → Halves → ℕ
place_of account code = lowest_place (holds account.high account.low account.active code)

-- Whether a code is active
abbrev pub is_active : Account → Halves → Bool
is_active account code = ltb (place_of account code) places

-- The lowest free place, 256 where none is free
abbrev pub free_place : Account → ℕ
free_place account = lowest_place (is_free account.active)

-- Full: all 256 places are active
abbrev pub is_full : Account → Bool
is_full account = not (ltb (free_place account) places)

-- ---- The answers

-- An answer: a refusal's number, 0 for any other; the words of one that is no refusal; whether it uses up the message number
pub record Answering : Type 0 where
  pub number : ℕ
  pub words : List ℕ
  pub uses : Bool

-- "Activating an active code answers "already", cancelling an inactive one "not active"; both use up the number"
abbrev pub activated : Answering
activated = record { number = 0; words = bytes "activated"; uses = true }

abbrev pub already : Answering
already = record { number = 0; words = bytes "already"; uses = true }

abbrev pub cancelled : Answering
cancelled = record { number = 0; words = bytes "cancelled"; uses = true }

abbrev pub not_active : Answering
not_active = record { number = 0; words = bytes "not active"; uses = true }

-- "A number not above the last one processed is answered "old" and changes nothing"
abbrev pub old : Answering
old = record { number = 0; words = bytes "old"; uses = false }

-- 40, 41 and 42
abbrev pub refusal : ℕ → Answering
refusal number = record { number = number; words = []; uses = false }

-- "43 full .. and it uses up the number too"
abbrev pub full : Answering
full = record { number = 43; words = []; uses = true }

-- The number and the words of each answer, and whether it uses up the message number
abbrev pub says : Answer → Answering
says answer.Activated = activated
says answer.Already = already
says answer.Cancelled = cancelled
says answer.NotActive = not_active
says answer.Old = old
says answer.Account = refusal 40
says answer.Number = refusal 41
says answer.Code = refusal 42
says answer.Full = full

-- ---- What a message does: its answer, and the account afterwards

pub record Done : Type 0 where
  pub answer : Answering
  pub account : Account

abbrev pub done : Answering → Account → Done
done answer account = record { answer = answer; account = account }

-- What a function hands back
abbrev pub does : Answered → Done
does r = done (says r.answer) r.account

-- A row of a table: where it applies, this is done
pub record Row : Type 0 where
  pub applies : Bool
  pub then : Done

abbrev pub row : Bool → Answering → Account → Row
row applies answer account = record { applies = applies; then = done answer account }

-- The first row that applies, or what is done where none does
abbrev pub decide : List Row → Done → Done
decide [] other = other
decide (r ∷ rows) other = cond r.applies r.then (decide rows other)

-- The total with one place more active: an account has 256 places, so that a total of 256 or more stays
abbrev pub raised : ℕ → ℕ
raised total = cond (ltb total places) (suc total) total

-- and with one less, where 0 stays
abbrev pub lowered : ℕ → ℕ
lowered total = total - 1

-- The account with a number used up, and nothing else changed
abbrev pub used : ℕ → Account → Account
used number account = account_of account.high account.low account.active number account.total

-- The account with a number used up, with another total, and with this put at a place: halves and activity. No other place changes
abbrev pub put_at : Account → ℕ → Halves → ℕ → ℕ → ℕ → Account
put_at account place code active number total =
    account_of (set account.high place code.high) (set account.low place code.low) (set account.active place active) number total

-- "An activation takes the lowest free place"
abbrev pub taken : ℕ → Account → Halves → Account
taken number account code = put_at account (free_place account) code 1 number (raised account.total)

-- What a cleared place holds
abbrev pub zeros : Halves
zeros = halves_by 0 0

-- "a cancelled place is cleared to zero and used again"
abbrev pub cleared : ℕ → Account → Halves → Account
cleared number account code = put_at account (place_of account code) zeros 0 number (lowered account.total)

-- An activation of a code: "already"; "43 full, exactly when an activation finds 256 others active and its code not"
unfoldable pub activation : Account → Halves → ℕ → Done
activation account code number =
    decide
    (row (is_active account code) already (used number account)
    ∷ row (is_full account) full (used number account)
    ∷ [])
    (done activated (taken number account code))

-- A cancellation of a code
unfoldable pub cancellation : Account → Halves → ℕ → Done
cancellation account code number =
    decide (row (not (is_active account code)) not_active (used number account) ∷ []) (done cancelled (cleared number account code))

-- The letter of each message, in lines and in records: `A` or `C`
abbrev pub letter_of : Kind → ℕ
letter_of Activate = code "A"
letter_of Cancel = code "C"

-- and the message by its letter
abbrev pub kind_of : ℕ → Kind
kind_of letter = cond (eqb letter (code "A")) Activate Cancel

-- which is found back
pub kind_letter : (kind : Kind) → kind_of (letter_of kind) ≡ kind
kind_letter Activate = refl
kind_letter Cancel = refl

-- "An account takes two messages, activate and cancel"
abbrev pub acting : Kind → Account → Halves → ℕ → Done
acting Activate = activation
acting Cancel = cancellation

-- ---- "Refusals, in order"

-- "a message number from 1 to 1,099,511,627,775"
abbrev pub largest : ℕ
largest = 1099511627775

-- "41 message number 0 or too large, 42 a code that reading refuses, then "old"": after 41 and 42 the account is as it went in
unfoldable pub processing : Kind → Account → List ℕ → ℕ → Done
processing kind account text number =
    decide
    (row (eqb number 0 || ltb largest number) (refusal 41) account
    ∷ row (not (readable text)) (refusal 42) account
    ∷ row (leb number account.last) old account
    ∷ [])
    (acting kind account (halves_in text) number)

-- An active place whose code is active at a lower place too
abbrev pub twice_at : Account → ℕ → Bool
twice_at account i = active_at account i && ltb (place_of account (code_at account i)) i

-- An active place whose content is no code that reading accepts
abbrev pub no_code_at : Account → ℕ → Bool
no_code_at account i = active_at account i && not (is_code (code_at account i))

-- Whether a test passes at any place
abbrev pub somewhere : (ℕ → Bool) → Bool
somewhere test = ltb (lowest_place test) places

-- A total that "isn't the count of its places"
abbrev pub miscounted : Account → Bool
miscounted account = not (eqb account.total (count_active account.active))

-- "40 an account handed in with one code active twice, an active place whose content is no code that reading accepts, or a last number
-- too large"; "40 also for an account whose total isn't the count of its places"
unfoldable pub no_account : Account → Bool
no_account account = somewhere (twice_at account) || (somewhere (no_code_at account) || (ltb largest account.last || miscounted account))

-- A message: 40 comes first, and the account is as it went in
unfoldable pub message : Kind → Account → List ℕ → ℕ → Done
message kind account text number =
    decide (row (no_account account) (refusal 40) account ∷ []) (processing kind account text number)
