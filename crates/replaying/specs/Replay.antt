-- Replay of a journal page (document 02, request 6), in the request's words: the messages of a page, where they stop, and the account and
-- the count of each answer that sending them one by one from an empty account gives. Assumes nothing.
use Rattle.std.specs.Prelude.{ℕ, zero, suc, ◌+◌, ◌*◌, ◌/◌, cond, List, [], ◌∷◌, length, ◌==◌, Some, None, Ok, Err}
use Rattle.facts.specs.Texts.{bytes}
use Rattle.letters.specs.Letters.{letters, number_in}
use Rattle.entitlements.specs.declared.Account.{Account}
use Rattle.entitlements.specs.Entitlements.{empty, kind_of}
use Rattle.history.specs.History.{Message, after, Sent, sent, times}
use Rattle.page.specs.declared.LookError.TheVariants as look
use Rattle.page.specs.Page.{Found, record_length, letter_in, code_of, number_text, stretch_at, look_at, refusal_of}
use Rattle.replaying.specs.declared.Counts.{Counts}
use Rattle.replaying.specs.declared.Replayed.{Replayed}

-- ---- the messages of a page

-- the message of a record: its kind, "the code's own twenty bytes in the page", and its number
abbrev pub message_in : List ℕ → Message
message_in stretch = record { kind = kind_of (letter_in stretch); text = code_of stretch; number = number_in letters (number_text stretch) }

-- a message before others where a record is found, and none from there on where none is
abbrev pub as_found : Found → Message → List Message → List Message
as_found (Ok (Some r)) m later = m ∷ later
as_found (Ok None) m later = []
as_found (Err look.Cut) m later = []
as_found (Err look.Mark) m later = []
as_found (Err look.Content) m later = []

-- the messages of records end to end from an offset on, of at most so many
unfoldable pub messages_from : ℕ → List ℕ → ℕ → List Message
messages_from zero page offset = []
messages_from (suc n) page offset =
    as_found (look_at page offset) (message_in (stretch_at page offset)) (messages_from n page (offset + record_length))

-- the messages of a page, in which there is a record for 31 bytes at most: up to its end, or to "the first 52, 53 or 54"
abbrev pub messages_of : List ℕ → List Message
messages_of page = messages_from (length page / record_length) page 0

-- the offset after them: "Replay stops .. and tells the offset"
abbrev pub stop_of : List ℕ → ℕ
stop_of page = record_length * length (messages_of page)

-- ---- "the account and count of each answer of sending its messages one by one"

-- 1 for a refusal by this number, 0 for any other answer
abbrev pub one_refused : ℕ → Sent → ℕ
one_refused number s = cond (s.answer.number == number) 1 0

-- how many answers were this refusal
abbrev pub times_refused : ℕ → List Sent → ℕ
times_refused number [] = 0
times_refused number (s ∷ later) = one_refused number s + times_refused number later

-- the count of each answer: of the five in words, and of 43
abbrev pub counts_of : List Sent → Counts
counts_of all = record {
  activated = times (bytes "activated") all;
  already = times (bytes "already") all;
  cancelled = times (bytes "cancelled") all;
  inactive = times (bytes "not active") all;
  old = times (bytes "old") all;
  full = times_refused 43 all;
}

-- What replay leaves, by its parts
abbrev pub replayed_by : ℕ → ℕ → Counts → Account → Replayed
replayed_by refusal offset counts account = record { refusal = refusal; offset = offset; counts = counts; account = account }

-- Replay of a page from an empty account: the refusal at which it stopped, 0 at the end, and the offset there; the counts; the account
unfoldable pub replayed : List ℕ → Replayed
replayed page =
    replayed_by (refusal_of (look_at page (stop_of page))) (stop_of page) (counts_of (sent empty (messages_of page))) (after empty (messages_of page))
