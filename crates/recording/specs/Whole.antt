-- What a run of the program `journal` writes, whatever its reads: the page of the whole input, and what is told of it. Assumes nothing.
use Rattle.std.specs.Prelude.{◌≡◌, ℕ, ◌+◌, ◌^◌, ◌<◌, ◌≤◌, Bool, true, false, cond, not, ◌||◌, List, [], ◌∷◌, length, ◌==◌, nat_lt, refl}
use Rattle.std.proofs.Common.{arith, ap}
use Rattle.replies.specs.Replies.{check, run}
use Rattle.halves.specs.Halves.{readable}
use Rattle.entitlements.specs.declared.Kind.{Kind}
use Rattle.entitlements.specs.Entitlements.{largest, kind_of}
use Rattle.page.specs.Page.{record_length, record_of, write_checks}
use Rattle.page.proofs.PageLaws.{record_length_lem, code_twenty}
use Rattle.lines.specs.Lines.{Reply, coded, refused, longest}
use Rattle.lines.specs.Messages.{Message, message, asks_total, not_of_this_form, message_of}
use Rattle.lines.specs.Answers.{always}
use Rattle.lines.specs.AnswersLaws.{ByFirst, long_first}
use Rattle.lines.specs.Automaton.{first, together}
use Rattle.lines.specs.ReplyLaws.{reply_most, refusal_short}
use Rattle.lines.specs.Putting.{listed_by}
use Rattle.lines.specs.PuttingLaws.{listed_whole, Within, reply_line_short}
use Rattle.recording.specs.Recorded.{reply_of, record_said, form_said, said, as_record, as_told, page_of, told_of}
use Rattle.recording.specs.RecordedLaws.{said_long}

-- ---- the whole page

-- more bytes than a line may have are enough
recording_first : (size : ℕ) → longest < size → ByFirst (always said) size
recording_first size h =
    long_first
    (always said)
    longest
    size
    (λ (s : Unit {0}). record { reply = refused 10 0; state = tt })
    (λ (s : Unit {0}) (line : List ℕ) (k : longest < length line). ap (λ (r : Reply). record { reply = r; state = tt }) (said_long line k))
    h

module _ (room : List ℕ) (reads : List (List ℕ)) (h : longest < length room) (few : 1 + length (together reads) < 2 ^ 64) where
  -- However reads cut the input, the records put for them one after the other are the page of the whole input
  pub whole : listed_by as_record (always said) (first room tt) reads ≡ page_of (together reads)
  whole = listed_whole (always said) room tt (recording_first (length room) h) as_record reads few

  -- and what is told of them is what is told of the whole input, lines numbered from 1
  pub whole_told : listed_by as_told (always said) (first room tt) reads ≡ told_of (together reads)
  whole_told = listed_whole (always said) room tt (recording_first (length room) h) as_told reads few

-- ---- how long records and what is told are

-- what is said of a line: a record of 31 bytes, or a refusal
abbrev Fits : Reply → Type 0
Fits (coded text) = length text ≡ record_length
Fits (refused number place) = Unit {0}

record_fits : (kind : Kind) (text : List ℕ) (number : ℕ) → Fits (record_said kind text number)
unfolding record_said write_checks
record_fits kind text number = at (number == 0 || nat_lt largest number) (readable text) refl
  where
    at : (n r : Bool) → readable text ≡ r
        → Fits (reply_of (run (check 41 n ∷ check 42 (not r) ∷ check 51 false ∷ [])) (record_of kind text number))
    at true r e = tt
    at false false e = tt
    at false true e = record_length_lem kind text number (code_twenty text e)

said_fits : (line : List ℕ) → Fits (said line)
unfolding said
said_fits line = pick (nat_lt longest (length line)) (message_of line)
  where
    pick : (b : Bool) (f : Message) → Fits (cond b (refused 10 0) (form_said f))
    pick true f = tt
    pick false (message letter number text) = record_fits (kind_of letter) text number
    pick false asks_total = tt
    pick false not_of_this_form = tt

-- For a line at most 31 bytes go into the page
pub records_within : Within record_length as_record (always said)
unfolding as_record
records_within = record { short = λ (number : ℕ) (s : Unit {0}) (line : List ℕ). of number (said line) (said_fits line) }
  where
    of : (number : ℕ) (reply : Reply) → Fits reply → length (as_record number reply) ≤ record_length
    of number (coded text) h = omega (arith, h)
    of number (refused n p) h = omega arith

-- and at most 71 are told
pub told_within : Within reply_most as_told (always said)
unfolding as_told
told_within = record { short = λ (number : ℕ) (s : Unit {0}) (line : List ℕ). of number (said line) }
  where
    of : (number : ℕ) (reply : Reply) → length (as_told number reply) ≤ reply_most
    of number (coded text) = omega arith
    of number (refused n p) = reply_line_short number (refused n p) (refusal_short n p)
