-- The journal and the account agree (document 02, requests 3 and 6): replay of the page that `journal` writes for lines gives the account
-- that `account` ends with after them, and the count of each answer of their messages, however reads cut the input of either. Assumes nothing.
use Rattle.std.specs.Prelude.{ℕ, ◌+◌, ◌^◌, ◌<◌, ◌≡◌, refl, Bool, true, false, cond, not, ◌&&◌, ◌||◌, List, [], ◌∷◌, ◌++◌, eqb, ltb, length}
use Rattle.std.proofs.Common.{arith, ap, ap₂, sym, ◌∙◌, true≢false, append-nil, append_assoc, ltb-false}
use Rattle.std.proofs.lemmas.Bool.{eqb-false}
use Rattle.facts.specs.Lists.{Each}
use Rattle.facts.specs.Tests.{neither}
use Rattle.facts.specs.Texts.{bytes}
use Rattle.replies.specs.Replies.{check, run}
use Rattle.halves.specs.Halves.{readable}
use Rattle.entitlements.specs.declared.Account.{Account}
use Rattle.entitlements.specs.declared.Kind.{Kind}
use Rattle.entitlements.specs.Entitlements.{largest, empty, kind_of, refusal, Done, done, processing, message}
use Rattle.entitlements.specs.Sound.{Sound, empty_sound, message_processing}
use Rattle.history.specs.History.{Message, send, after, Sent, sent_by, sent, one}
use Rattle.history.proofs.HistoryLaws.{send_sound}
use Rattle.page.specs.Page.{record_of, write_checks}
use Rattle.replaying.specs.declared.Counts.{Counts}
use Rattle.replaying.specs.declared.Replayed.{Replayed}
use Rattle.replaying.specs.Replay.{one_refused, counts_of, replayed_by, replayed}
use Rattle.replaying.proofs.ReplayLaws.{counts_by}
use Rattle.replaying.proofs.Whole.{Recordable, records_of, pages_replayed}
use Rattle.lines.specs.Lines.{refused, longest, lines_of}
use Rattle.lines.specs.Messages.{Message as Form, message as stating, asks_total, not_of_this_form, message_of}
use Rattle.lines.specs.Answers.{state_from, always}
use Rattle.lines.specs.Automaton.{first, after as read, final, together}
use Rattle.lines.specs.Putting.{replies_by, output_by, listed_by}
use Rattle.book.specs.Said.{posting}
use Rattle.book.specs.Whole.{whole_account}
use Rattle.book.specs.Kept.{message_in, message_on, messages_of, lines_after}
use Rattle.recording.specs.Recorded.{reply_of, record_said, form_said, said, as_record, page_of}
use Rattle.recording.specs.Whole.{whole}
use Rattle.accord.specs.Accord.{is_recordable, recordable}

-- ---- the messages that are recorded

-- each of them can be recorded
each_recordable : (messages : List Message) → Each Recordable (recordable messages)
each_recordable [] = tt
each_recordable (m ∷ later) =
    at (eqb m.number 0 || ltb largest m.number) (readable m.text) refl refl (each_recordable later)
  where
    at : (n r : Bool) → (eqb m.number 0 || ltb largest m.number) ≡ n → readable m.text ≡ r → Each Recordable (recordable later)
        → Each Recordable (cond (not n && r) (m ∷ recordable later) (recordable later))
    at true r e k rest = rest
    at false true e k rest =
        let number = neither (eqb m.number 0) (ltb largest m.number) e in
        (record { some = eqb-false m.number 0 number.0; most = ltb-false largest m.number number.1; read = k }, rest)
    at false false e k rest = rest

recordable_append : (messages more : List Message) → recordable (messages ++ more) ≡ recordable messages ++ recordable more
recordable_append [] more = refl
recordable_append (m ∷ later) more = at (is_recordable m) (recordable_append later more)
  where
    at : (b : Bool) → recordable (later ++ more) ≡ recordable later ++ recordable more
        → cond b (m ∷ recordable (later ++ more)) (recordable (later ++ more)) ≡ cond b (m ∷ recordable later) (recordable later) ++ recordable more
    at true e = ap (λ (l : List Message). m ∷ l) e
    at false e = e

records_append : (messages more : List Message) → records_of (messages ++ more) ≡ records_of messages ++ records_of more
records_append [] more = refl
records_append (m ∷ later) more =
    ap (λ (l : List ℕ). record_of m.kind m.text m.number ++ l) (records_append later more)
    ∙ sym (append_assoc (record_of m.kind m.text m.number) (records_of later) (records_of more))

-- ---- the page of lines is that of their messages

line_records : (number : ℕ) (line : List ℕ) → as_record number (said line) ≡ records_of (recordable (message_on line))
unfolding as_record said record_said write_checks
line_records number line = pick (ltb longest (length line)) (message_of line)
  where
    stated : (kind : Kind) (text : List ℕ) (n : ℕ) (w r : Bool)
        → as_record number (reply_of (run (check 41 w ∷ check 42 (not r) ∷ check 51 false ∷ [])) (record_of kind text n))
        ≡ records_of (cond (not w && r) (record { kind = kind; text = text; number = n } ∷ []) [])
    stated kind text n true r = refl
    stated kind text n false true = sym (append-nil (record_of kind text n))
    stated kind text n false false = refl

    pick : (b : Bool) (f : Form) → as_record number (cond b (refused 10 0) (form_said f)) ≡ records_of (recordable (cond b [] (message_in f)))
    pick true f = refl
    pick false (stating letter n text) = stated (kind_of letter) text n (eqb n 0 || ltb largest n) (readable text)
    pick false asks_total = refl
    pick false not_of_this_form = refl

lines_records : (lines : List (List ℕ)) (number : ℕ) → replies_by as_record (always said) tt number lines ≡ records_of (recordable (messages_of lines))
unfolding replies_by
lines_records [] number = refl
lines_records (line ∷ lines) number =
    ap₂ ◌++◌ (line_records number line) (lines_records lines (number + 1))
    ∙ sym (records_append (recordable (message_on line)) (recordable (messages_of lines)))
    ∙ ap records_of (sym (recordable_append (message_on line) (messages_of lines)))

-- ---- what is not recorded changes nothing

-- It is refused, by 41 or by 42
pub record Refused (account : Account) (m : Message) : Type 0 where
  pub number : ℕ
  pub leaves : send account m ≡ done (refusal number) account
  pub not_43 : eqb number 43 ≡ false

refused_leaves : {account : Account} (m : Message) → Sound account → is_recordable m ≡ false → Refused account m
unfolding processing
refused_leaves {account} m sound =
    at (eqb m.number 0 || ltb largest m.number) (readable m.text) refl refl
  where
    sends : send account m ≡ processing m.kind account m.text m.number
    sends = message_processing m.kind account m.text m.number sound

    at : (n r : Bool) → (eqb m.number 0 || ltb largest m.number) ≡ n → readable m.text ≡ r → (not n && r) ≡ false → Refused account m
    at true r e k f = record { number = 41; leaves = sends ∙ rw e refl; not_43 = refl }
    at false true e k f = absurd (true≢false f)
    at false false e k f = record { number = 42; leaves = sends ∙ rw (e, k) refl; not_43 = refl }

-- and is not counted
refused_counts : (m : Message) (number : ℕ) → eqb number 43 ≡ false → (later : List Sent) → counts_of (sent_by m (refusal number) ∷ later) ≡ counts_of later
refused_counts m number e later =
    let none : (n : ℕ) → 0 + n ≡ n = λ n. omega arith in
    rw e
    (ap₂ (λ (a b : ℕ). counts_by a b (0 + (counts_of later).cancelled) (0 + (counts_of later).inactive) (0 + (counts_of later).old) (0 + (counts_of later).full))
    (none (counts_of later).activated)
    (none (counts_of later).already)
    ∙ ap₂ (λ (a b : ℕ). counts_by (counts_of later).activated (counts_of later).already a b (0 + (counts_of later).old) (0 + (counts_of later).full))
    (none (counts_of later).cancelled)
    (none (counts_of later).inactive)
    ∙ ap₂ (λ (a b : ℕ). counts_by (counts_of later).activated (counts_of later).already (counts_of later).cancelled (counts_of later).inactive a b)
    (none (counts_of later).old)
    (none (counts_of later).full))

-- So the messages that are recorded leave the account that all leave
recorded_after : (messages : List Message) {account : Account} → Sound account → after account (recordable messages) ≡ after account messages
recorded_after [] sound = refl
recorded_after (m ∷ later) {account} sound =
    at (is_recordable m) refl (recorded_after later (send_sound sound m)) (recorded_after later sound)
  where
    at : (b : Bool) → is_recordable m ≡ b
        → after (send account m).account (recordable later) ≡ after (send account m).account later
        → after account (recordable later) ≡ after account later
        → after account (cond b (m ∷ recordable later) (recordable later)) ≡ after (send account m).account later
    at true e sent_on passed = sent_on
    at false e sent_on passed =
        passed ∙ ap (λ (d : Done). after d.account later) (sym (refused_leaves m sound e).leaves)

-- The counts with one more answer
abbrev counting : Sent → Counts → Counts
counting s counts =
    counts_by (one (bytes "activated") s.answer + counts.activated) (one (bytes "already") s.answer + counts.already)
    (one (bytes "cancelled") s.answer + counts.cancelled) (one (bytes "not active") s.answer + counts.inactive)
    (one (bytes "old") s.answer + counts.old) (one_refused 43 s + counts.full)

-- and are answered as all are, but for 41 and 42
recorded_counts : (messages : List Message) {account : Account} → Sound account
    → counts_of (sent account (recordable messages)) ≡ counts_of (sent account messages)
recorded_counts [] sound = refl
recorded_counts (m ∷ later) {account} sound =
    at (is_recordable m) refl (recorded_counts later (send_sound sound m)) (recorded_counts later sound)
  where
    at : (b : Bool) → is_recordable m ≡ b
        → counts_of (sent (send account m).account (recordable later)) ≡ counts_of (sent (send account m).account later)
        → counts_of (sent account (recordable later)) ≡ counts_of (sent account later)
        → counts_of (sent account (cond b (m ∷ recordable later) (recordable later)))
        ≡ counts_of (sent_by m (send account m).answer ∷ sent (send account m).account later)
    at true e sent_on passed = ap (counting (sent_by m (send account m).answer)) sent_on
    at false e sent_on passed =
        let so = refused_leaves m sound e in
        passed
        ∙ sym (refused_counts m so.number so.not_43 (sent account later))
        ∙ ap (λ (d : Done). counts_of (sent_by m d.answer ∷ sent d.account later)) (sym so.leaves)

-- ---- the account and its journal

module _ (input : List ℕ) where
  abbrev messages : List Message
  messages = messages_of (lines_of input)

  page_records : page_of input ≡ records_of (recordable messages)
  unfolding output_by
  page_records = lines_records (lines_of input) 1

  journal_replayed : replayed (page_of input)
      ≡ replayed_by 0 (length (page_of input)) (counts_of (sent empty (recordable messages))) (after empty (recordable messages))
  journal_replayed = rw page_records (pages_replayed (recordable messages) (each_recordable messages))

  -- Replay of the journal of lines comes to its end, and its account is the one after the lines
  pub same_end : ((replayed (page_of input)).refusal ≡ 0) × ((replayed (page_of input)).offset ≡ length (page_of input))
  same_end = (ap (λ (r : Replayed). r.refusal) journal_replayed, ap (λ (r : Replayed). r.offset) journal_replayed)

  pub same_account : (replayed (page_of input)).account ≡ state_from (posting message) empty (lines_of input)
  same_account =
      ap (λ (r : Replayed). r.account) journal_replayed ∙ recorded_after messages empty_sound ∙ sym (lines_after (lines_of input) empty)

  -- and its counts are those of the answers to their messages
  pub same_counts : (replayed (page_of input)).counts ≡ counts_of (sent empty messages)
  same_counts = ap (λ (r : Replayed). r.counts) journal_replayed ∙ recorded_counts messages empty_sound

-- So it is of what the programs write and keep, however reads cut the same input of either
pub same_whole : (room other : List ℕ) (reads cuts : List (List ℕ)) → together reads ≡ together cuts → longest < length room → longest < length other
    → 1 + length (together reads) < 2 ^ 64
    → (replayed (listed_by as_record (always said) (first room tt) reads)).account
    ≡ final (posting processing) (read (posting processing) (first other empty) (together cuts))
same_whole room other reads cuts e h k few =
    ap (λ (page : List ℕ). (replayed page).account) (whole room reads h few)
    ∙ same_account (together reads)
    ∙ ap (λ (input : List ℕ). state_from (posting message) empty (lines_of input)) e
    ∙ sym (whole_account other cuts k (rw (sym e) few))
