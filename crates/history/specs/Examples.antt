-- A history of messages with their answers and totals, computed from the definitions (document 02, requests 3 and 5). Assumes nothing.
use Rattle.std.specs.Prelude.{ℕ, Bool, true, ◌&&◌, List, [], ◌∷◌, T, eqb}
use Prim.Native.String.{String}
use Rattle.facts.specs.Texts.{bytes, same_text}
use Rattle.location.specs.Location.{latters}
use Rattle.spelling.specs.Spelling.{text_checks, numbers_in}
use Rattle.code.specs.Code.{fields_in, location_checks, span_checks, reading_numbers, reading}
use Rattle.halves.specs.Halves.{is_code}
use Rattle.places.specs.Places.{lowest_place, count_below, count_active}
use Rattle.entitlements.specs.declared.Account.{Account}
use Rattle.entitlements.specs.declared.Kind.{Kind}
use Rattle.entitlements.specs.declared.Kind.TheVariants.{Activate, Cancel}
use Rattle.entitlements.specs.Entitlements.{
  empty,
  account_of,
  Answering,
  activated,
  already,
  cancelled,
  not_active,
  old,
  refusal,
  Done,
  activation,
  cancellation,
  processing,
  no_account,
  message,
}

-- A message, its answer, and the total afterwards
pub record Example : Type 0 where
  pub kind : Kind
  pub number : ℕ
  pub text : String
  pub answer : Answering
  pub total : ℕ

abbrev is : Kind → ℕ → String → Answering → ℕ → Example
is kind number text answer total = record { kind = kind; number = number; text = text; answer = answer; total = total }

-- Sent one by one to an empty account
abbrev pub examples : List Example
examples =
    is Activate 5 "0W7ARCTDHYYRA99A0001" activated 1
    ∷ is Activate 6 "0W7ARCTDHYYRA99A0001" already 1
    ∷ is Activate 7 "00000000001TH1120000" activated 2
    -- the number of the last one processed, also by "already", is old
    ∷ is Cancel 7 "00000000001TH1120000" old 2
    ∷ is Cancel 8 "00000000001TH1120000" cancelled 1
    ∷ is Cancel 9 "00000000001TH1120000" not_active 1
    ∷ is Cancel 9 "0W7ARCTDHYYRA99A0001" old 1
    -- 41 comes before 42, and 42 before "old"
    ∷ is Activate 0 "" (refusal 41) 1
    ∷ is Activate 1099511627776 "" (refusal 41) 1
    ∷ is Activate 9 "GGGGGGGGGGHUY1120000" (refusal 42) 1
    ∷ is Activate 1099511627775 "000000XCYYYNEDDE0000" activated 2
    ∷ is Cancel 1099511627775 "000000XCYYYNEDDE0000" old 2
    ∷ []

-- An empty account but for a total of 1
abbrev pub miscount : Account
miscount = account_of empty.high empty.low empty.active 0 1

-- Whether answers are the same
abbrev same_answer : Answering → Answering → Bool
same_answer a b = eqb a.number b.number && same_text a.words b.words

-- Whether a message did so, and what follows is so of the account afterwards
abbrev did : Example → (Account → Bool) → Done → Bool
did x later d = same_answer d.answer x.answer && (eqb d.account.total x.total && later d.account)

-- Whether messages do so from an account on
abbrev so : List Example → Account → Bool
so [] account = true
so (x ∷ later) account = did x (so later) (message x.kind account (bytes x.text) x.number)

-- as the definitions compute them; and one account is refused by 40, for its total
pub computed : T (so examples empty && so (is Activate 5 "0W7ARCTDHYYRA99A0001" (refusal 40) 1 ∷ []) miscount)
unfolding latters
    text_checks
    numbers_in
    fields_in
    location_checks
    span_checks
    reading_numbers
    reading
    is_code
    lowest_place
    count_below
    count_active
    activation
    cancellation
    processing
    no_account
    message
computed = tt
