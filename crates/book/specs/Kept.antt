-- The messages that the lines of an input state, and what the theorem of the history says of these: of the account at the end of every
-- input, however reads cut it, of the replies that were written, and of the total that a line asks for. Assumes nothing.
use Rattle.std.specs.Prelude.{◌≡◌, ℕ, ◌+◌, ◌-◌, ◌^◌, ◌<◌, Bool, true, false, cond, List, [], ◌∷◌, ◌++◌, length, nat_eq, nat_lt}
use Prim.Native.Char.{code}
use Rattle.std.proofs.Common.{arith, ◌∙◌}
use Rattle.std.proofs.Math.Path.{refl, ap, ap₂, sym}
use Rattle.facts.specs.Texts.{bytes, same_text}
use Rattle.entitlements.specs.declared.Account.{Account}
use Rattle.entitlements.specs.Entitlements.{empty, Answering, processing, message}
use Rattle.entitlements.proofs.Outcomes.{Spoken, in_words_lem, by_number, message_spoken}
use Rattle.history.specs.History.{Message, after, sent, one, times, Kept}
use Rattle.history.proofs.HistoryLaws.{after_append, sent_append, times_append, kept}
use Rattle.lines.specs.Lines.{Reply, refused, saying, longest, lines_of}
use Rattle.lines.specs.Messages.{Message as Form, message as stating, asks_total, not_of_this_form, message_of}
use Rattle.lines.specs.Answers.{Served, said_from, state_from}
use Rattle.lines.specs.Automaton.{first, final, together, after as read}
use Rattle.places.specs.Places.{count_active}
use Rattle.entry.specs.Stated.{kind_of}
use Rattle.entry.specs.StatedLaws.{stated_asks}
use Rattle.book.specs.Said.{reply_of, total_said, answered, form_posted, posting}
use Rattle.book.specs.SaidLaws.{posting_total}
use Rattle.book.specs.Whole.{whole_account}

-- ---- the messages of an input

-- the message of a form, if it has one
abbrev pub message_in : Form → List Message
message_in (stating letter number text) = record { kind = kind_of letter; text = text; number = number } ∷ []
message_in asks_total = []
message_in not_of_this_form = []

-- the message of a line, if it states one: the question for the total is none, and 9 and 10 are for lines that are neither
abbrev pub message_on : List ℕ → List Message
message_on line = cond (nat_lt longest (length line)) [] (message_in (message_of line))

-- the messages that lines state
abbrev pub messages_of : List (List ℕ) → List Message
messages_of [] = []
messages_of (line ∷ lines) = message_on line ++ messages_of lines

-- ---- the account after them

-- a line leaves the account after its message
line_after : (account : Account) (line : List ℕ) → (posting message account line).state ≡ after account (message_on line)
unfolding posting
line_after account line = pick (nat_lt longest (length line)) (message_of line)
  where
    pick : (b : Bool) (f : Form)
        → (cond b (answered (refused 10 0) account) (form_posted message account f)).state ≡ after account (cond b [] (message_in f))
    pick true f = refl
    pick false (stating letter number text) = refl
    pick false asks_total = refl
    pick false not_of_this_form = refl

-- and lines the account after theirs
pub lines_after : (lines : List (List ℕ)) (account : Account) → state_from (posting message) account lines ≡ after account (messages_of lines)
unfolding state_from
lines_after [] account = refl
lines_after (line ∷ lines) account =
    lines_after lines (posting message account line).state
    ∙ ap (λ (a : Account). after a (messages_of lines)) (line_after account line)
    ∙ sym (after_append (message_on line) (messages_of lines) account)

-- So the theorem of the history is of the account after any lines
pub lines_kept : (lines : List (List ℕ)) → Kept (state_from (posting message) empty lines) (sent empty (messages_of lines))
lines_kept lines = rw (lines_after lines empty) (kept (messages_of lines))

-- and at the end of every input
pub whole_kept : (room : List ℕ) (reads : List (List ℕ)) → longest < length room → 1 + length (together reads) < 2 ^ 64
    → Kept (final (posting processing) (read (posting processing) (first room empty) (together reads)))
    (sent empty (messages_of (lines_of (together reads))))
whole_kept room reads h few = rw (whole_account room reads h few) (lines_kept (lines_of (together reads)))

-- ---- the replies to them

-- 1 for a reply in these words, 0 for any other
abbrev pub in_words : List ℕ → Reply → ℕ
in_words words said = cond (same_text (saying said) words) 1 0

-- how many replies are in these words
abbrev pub replies_in : List ℕ → List Reply → ℕ
replies_in words [] = 0
replies_in words (said ∷ later) = in_words words said + replies_in words later

-- words that start neither as a refusal does nor as a total
module _ (w : ℕ) (rest : List ℕ) (other : nat_eq (code "r") w ≡ false) (another : nat_eq (code "t") w ≡ false) where
  abbrev words : List ℕ
  words = w ∷ rest

  refusal_other : (number place : ℕ) → in_words words (refused number place) ≡ 0
  refusal_other number place = rw other

  total_other : (total : ℕ) → in_words words (total_said total) ≡ 0
  total_other total = rw another

  -- a reply is in them where the answer is
  spoken_words : {answer : Answering} → Spoken answer → in_words words (reply_of answer) ≡ one words answer
  spoken_words (in_words_lem said uses h) = refl
  spoken_words (by_number number uses e) = rw e (refusal_other number 0)

  -- a line's where it states a message
  line_words : (account : Account) (line : List ℕ)
      → in_words words (posting message account line).reply ≡ times words (sent account (message_on line))
  unfolding posting
  line_words account line = pick (nat_lt longest (length line)) (message_of line)
    where
      pick : (b : Bool) (f : Form)
          → in_words words (cond b (answered (refused 10 0) account) (form_posted message account f)).reply
          ≡ times words (sent account (cond b [] (message_in f)))
      pick true f = refusal_other 10 0
      pick false (stating letter number text) = omega (arith, spoken_words (message_spoken (kind_of letter) account text number))
      pick false asks_total = total_other account.total
      pick false not_of_this_form = refusal_other 9 0

  -- as many replies are in these words as there are answers
  lines_words : (lines : List (List ℕ)) (account : Account)
      → replies_in words (said_from (posting message) account lines) ≡ times words (sent account (messages_of lines))
  unfolding said_from
  lines_words [] account = refl
  lines_words (line ∷ lines) account =
      let next : Account = (posting message account line).state in
      let later = lines_words lines next ∙ ap (λ (a : Account). times words (sent a (messages_of lines))) (line_after account line) in
      let parts = times_append words (sent account (message_on line)) (sent (after account (message_on line)) (messages_of lines)) in
      ap₂ ◌+◌ (line_words account line) later
      ∙ sym parts
      ∙ ap (times words) (sym (sent_append (message_on line) (messages_of lines) account))

-- the number of the replies `activated` to lines less that of the replies `cancelled`
abbrev pub less_cancelled : List (List ℕ) → ℕ
less_cancelled lines =
    replies_in (bytes "activated") (said_from (posting message) empty lines) - replies_in (bytes "cancelled") (said_from (posting message) empty lines)

-- So after any lines the total is that
pub lines_number : (lines : List (List ℕ)) → (state_from (posting message) empty lines).total ≡ less_cancelled lines
lines_number lines =
    (lines_kept lines).number
    ∙ ap₂ ◌-◌ (sym (lines_words (code "a") (bytes "ctivated") refl refl lines empty)) (sym (lines_words (code "c") (bytes "ancelled") refl refl lines empty))

-- and so at the end of every input, however reads cut it
pub whole_number : (room : List ℕ) (reads : List (List ℕ)) → longest < length room → 1 + length (together reads) < 2 ^ 64
    → (final (posting processing) (read (posting processing) (first room empty) (together reads))).total ≡ less_cancelled (lines_of (together reads))
whole_number room reads h few =
    ap (λ (account : Account). account.total) (whole_account room reads h few) ∙ lines_number (lines_of (together reads))

-- ---- the total asked for

-- a line `T` is told the total that is kept
asked : (account : Account) → (posting message account (bytes "T")).reply ≡ total_said account.total
asked account =
    ap (λ (served : Served Account). served.reply) (posting_total message account (bytes "T") (omega arith) (stated_asks (bytes "T") refl))

module _ (lines : List (List ℕ)) where
  abbrev found : Account
  found = state_from (posting message) empty lines

  -- which after any lines is how many places are active
  pub asked_count : (posting message found (bytes "T")).reply ≡ total_said (count_active found.active)
  asked_count = asked found ∙ ap total_said (lines_kept lines).total

  -- and the replies `activated` until then less the replies `cancelled`
  pub asked_number : (posting message found (bytes "T")).reply ≡ total_said (less_cancelled lines)
  asked_number = asked found ∙ ap total_said (lines_number lines)
