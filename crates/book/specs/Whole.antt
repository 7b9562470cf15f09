-- What a run of the account program writes, whatever its reads: from an empty account, what each line's message is answered by
-- `message`, which tests the whole account anew each time. Not to test it is proved here to change nothing. Assumes nothing.
use Rattle.std.specs.Prelude.{◌≡◌, ℕ, ◌+◌, ◌^◌, ◌<◌, Bool, true, false, cond, List, length, nat_lt, refl}
use Rattle.std.proofs.Common.{arith, ap, sym, ◌∙◌, length-append}
use Rattle.facts.specs.Texts.{bytes}
use Rattle.entitlements.specs.declared.Account.{Account}
use Rattle.entitlements.specs.Entitlements.{empty, Answering, processing, message}
use Rattle.entitlements.specs.Sound.{Sound, empty_sound, message_processing}
use Rattle.entitlements.proofs.Outcomes.{Spoken, in_words_lem, by_number, processing_sound, processing_spoken}
use Rattle.lines.specs.Lines.{refused, decimal, longest, lines_of}
use Rattle.lines.specs.Messages.{Message, message as stating, asks_total, not_of_this_form, message_of}
use Rattle.lines.specs.Answers.{state_from, output_from}
use Rattle.lines.specs.AnswersLaws.{ByFirst, long_first, output_agree, state_agree}
use Rattle.lines.specs.Automaton.{first, after, final, together, listed}
use Rattle.lines.specs.AutomatonLaws.{listed_output, final_state}
use Rattle.lines.specs.ReplyLaws.{Short, spelling_short, refusal_short}
use Rattle.entry.specs.Stated.{kind_of}
use Rattle.book.specs.Said.{Doing, reply_of, total_said, answered, posted, form_posted, posting}
use Rattle.book.specs.SaidLaws.{posting_long}

-- ---- from the empty account on, the whole account need not be tested

-- a line leaves a sound account sound
line_sound : (account : Account) (line : List ℕ) → Sound account → Sound (posting processing account line).state
unfolding posting
line_sound account line sound = pick (nat_lt longest (length line)) (message_of line)
  where
    pick : (b : Bool) (f : Message) → Sound (cond b (answered (refused 10 0) account) (form_posted processing account f)).state
    pick true f = sound
    pick false (stating letter number text) = processing_sound (kind_of letter) account text number sound
    pick false asks_total = sound
    pick false not_of_this_form = sound

-- and is answered in it as `message` answers
line_message : (account : Account) (line : List ℕ) → Sound account → posting processing account line ≡ posting message account line
unfolding posting
line_message account line sound =
    ap (cond (nat_lt longest (length line)) (answered (refused 10 0) account)) (of (message_of line))
  where
    of : (f : Message) → form_posted processing account f ≡ form_posted message account f
    of (stating letter number text) = ap posted (sym (message_processing (kind_of letter) account text number sound))
    of asks_total = refl
    of not_of_this_form = refl

-- ---- the whole output

-- more bytes than a line may have are enough
posting_first : (doing : Doing) (size : ℕ) → longest < size → ByFirst (posting doing) size
posting_first doing size h = long_first (posting doing) longest size (answered (refused 10 0)) (posting_long doing) h

module _ (room : List ℕ) (reads : List (List ℕ)) (h : longest < length room) (few : 1 + length (together reads) < 2 ^ 64) where
  -- However reads cut the input, the replies to them are the output for the whole input, lines numbered from 1
  pub whole : listed (posting processing) (first room empty) reads ≡ output_from (posting message) empty (together reads)
  whole =
      listed_output (posting processing) room empty (posting_first processing (length room) h) reads few
      ∙ output_agree (posting processing) (posting message) Sound line_sound line_message empty (together reads) empty_sound

  -- and the account at its end is the one that messages leave
  pub whole_account : final (posting processing) (after (posting processing) (first room empty) (together reads))
      ≡ state_from (posting message) empty (lines_of (together reads))
  whole_account =
      final_state (posting processing) room empty (posting_first processing (length room) h) (together reads) few
      ∙ state_agree (posting processing) (posting message) Sound line_sound line_message empty (lines_of (together reads)) empty_sound

-- ---- how long replies are

-- an answer has ten letters at most, or is a refusal, and a total has 20 digits at most
spoken_short : {answer : Answering} → Spoken answer → Short (reply_of answer)
spoken_short (in_words_lem words uses h) = omega (arith, h)
spoken_short (by_number number uses e) = rw e (refusal_short number 0)

total_short : (total : ℕ) → Short (total_said total)
total_short total = omega (arith, length-append (bytes "total ") (decimal total), spelling_short 20 total)

pub said_short : (account : Account) (line : List ℕ) → Short (posting processing account line).reply
unfolding posting
said_short account line = pick (nat_lt longest (length line)) (message_of line)
  where
    pick : (b : Bool) (f : Message) → Short (cond b (answered (refused 10 0) account) (form_posted processing account f)).reply
    pick true f = refusal_short 10 0
    pick false (stating letter number text) = spoken_short (processing_spoken (kind_of letter) account text number)
    pick false asks_total = total_short account.total
    pick false not_of_this_form = refusal_short 9 0
