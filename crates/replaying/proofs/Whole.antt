-- What replay of a page is: it stops where no record is, which at a clean end is the page's length; and the page that records of messages
-- make end to end is replayed as these messages, so that a journal and its replay give the account of sending them. Assumes nothing.
use Rattle.std.specs.Prelude.{◌≡◌, ℕ, zero, suc, ◌+◌, ◌-◌, ◌*◌, ◌/◌, ◌<◌, ◌≤◌, Bool, true, false, cond, List, [], ◌∷◌, ◌++◌, length, ◌==◌, nat_lt, refl, Some, None, Ok, Err}
use Rattle.std.proofs.Common.{arith, ◌∙◌, true≢false, append-nil, append_assoc, length-append, drop_at, eqb-true, eq-eqb}
use Rattle.std.proofs.Math.Path.{ap, ap₂, sym}
use Rattle.facts.specs.Lists.{Each}
use Rattle.halves.specs.Halves.{readable}
use Rattle.letters.specs.Letters.{letters, number_in}
use Rattle.entitlements.specs.declared.Kind.{Kind}
use Rattle.entitlements.specs.Entitlements.{largest, empty, kind_of, kind_letter}
use Rattle.history.specs.History.{Message, after, sent}
use Rattle.page.specs.declared.LookError.TheVariants as look
use Rattle.page.specs.Page.{Found, record_length, record_of, code_of, number_text, stretch_at, mark_wrong, content_wrong, record_in, found_in, look_at, refusal_of}
use Rattle.page.proofs.PageLaws.{record_length_lem, code_twenty, is_record, look_within}
use Rattle.page.proofs.Reverse.{Writable, look_stretch, record_holds, record_found_lem}
use Rattle.replaying.specs.Replay.{message_in, as_found, messages_from, messages_of, stop_of, counts_of, replayed_by, replayed}
use Rattle.replaying.proofs.ReplayLaws.{left_from, left_more, left_none, left_all}

-- ---- where it stops

-- Where no record is found and nothing is refused, it is the end
look_ends : (page : List ℕ) (offset : ℕ) → is_record (look_at page offset) ≡ false → refusal_of (look_at page offset) ≡ 0 → offset ≡ length page
unfolding look_at found_in
look_ends page offset n e =
    at (offset == length page) (nat_lt (length (stretch_at page offset)) record_length) (mark_wrong (stretch_at page offset)) (content_wrong (stretch_at page offset)) refl n e
  where
    at : (b c m w : Bool) → (offset == length page) ≡ b
        → is_record (cond b (Ok None) (cond c (Err look.Cut) (cond m (Err look.Mark) (cond w (Err look.Content) (Ok (Some (record_in (stretch_at page offset)))))))) ≡ false
        → refusal_of (cond b (Ok None) (cond c (Err look.Cut) (cond m (Err look.Mark) (cond w (Err look.Content) (Ok (Some (record_in (stretch_at page offset)))))))) ≡ 0
        → offset ≡ length page
    at true c m w k n e = eqb-true offset (length page) k
    at false true m w k n e = let none : ⊥ = omega (arith, e) in absurd none
    at false false true w k n e = let none : ⊥ = omega (arith, e) in absurd none
    at false false false true k n e = let none : ⊥ = omega (arith, e) in absurd none
    at false false false false k n e = absurd (true≢false n)

-- The offset after the messages from an offset on
abbrev stop_from : List ℕ → ℕ → ℕ → ℕ
stop_from page n offset = offset + record_length * length (messages_from n page offset)

-- Where a record's bytes are not left, none is found
too_few : (page : List ℕ) (offset : ℕ) → length page < offset + record_length → is_record (look_at page offset) ≡ false
too_few page offset h = at (look_at page offset) refl
  where
    at : (f : Found) → look_at page offset ≡ f → is_record f ≡ false
    at (Ok (Some r)) e = let none : ⊥ = omega (arith, h, look_within page offset e) in absurd none
    at (Ok None) e = refl
    at (Err f) e = refl

-- No record is found after the messages, where there is room for no more than were looked for
none_after : (n : ℕ) (page : List ℕ) (offset : ℕ) → (length page - offset) / record_length ≤ n → is_record (look_at page (stop_from page n offset)) ≡ false
unfolding messages_from
none_after zero page offset h =
    ap (λ (o : ℕ). is_record (look_at page o)) (omega arith) ∙ too_few page offset (omega (arith, h))
none_after (suc n) page offset h =
    at (look_at page offset) refl (λ room. none_after n page (offset + record_length) (omega (arith, h, room)))
  where
    here : is_record (look_at page offset) ≡ false → is_record (look_at page (offset + record_length * 0)) ≡ false
    here e = ap (λ (o : ℕ). is_record (look_at page o)) (omega arith) ∙ e

    at : (f : Found) → look_at page offset ≡ f
        → (offset + record_length ≤ length page → is_record (look_at page (stop_from page n (offset + record_length))) ≡ false)
        → is_record (look_at page (offset + record_length * length (as_found f (message_in (stretch_at page offset)) (messages_from n page (offset + record_length))))) ≡ false
    at (Ok (Some r)) e later =
        ap (λ (o : ℕ). is_record (look_at page o)) (omega arith) ∙ later (look_within page offset e)
    at (Ok None) e later = here (ap is_record e)
    at (Err look.Cut) e later = here (ap is_record e)
    at (Err look.Mark) e later = here (ap is_record e)
    at (Err look.Content) e later = here (ap is_record e)

module _ (page : List ℕ) where
  -- "Replay stops at the first 52, 53 or 54", or ends at the end: no record is found at the offset that it tells
  pub stop_none : is_record (look_at page (stop_of page)) ≡ false
  stop_none =
      ap (λ (o : ℕ). is_record (look_at page o)) (omega arith) ∙ none_after (length page / record_length) page 0 (omega arith)

  -- which is the page's length where it comes to the end
  pub stop_end : refusal_of (look_at page (stop_of page)) ≡ 0 → stop_of page ≡ length page
  stop_end e = look_ends page (stop_of page) stop_none e

-- ---- the page of messages

-- at the end there is the end
look_at_end : (page : List ℕ) (offset : ℕ) → offset ≡ length page → look_at page offset ≡ Ok None
unfolding look_at
look_at_end page offset e = rw (eq-eqb offset (length page) e)

-- A message by its parts
abbrev message_by : Kind → List ℕ → ℕ → Message
message_by kind text number = record { kind = kind; text = text; number = number }

-- A message that 41 and 42 let pass
pub record Recordable (m : Message) : Type 0 where
  pub some : m.number ≡ 0 → ⊥
  pub most : m.number ≤ largest
  pub read : readable m.text ≡ true

-- "records end to end"
abbrev pub records_of : List Message → List ℕ
records_of [] = []
records_of (m ∷ later) = record_of m.kind m.text m.number ++ records_of later

-- A record read back is the message
message_back : (m : Message) → Recordable m → (rest : List ℕ) → message_in (record_of m.kind m.text m.number ++ rest) ≡ m
message_back m so rest =
    let held = record_holds m.kind m.text m.number (code_twenty m.text so.read) rest so.most in
    ap (λ (l : ℕ). message_by (kind_of l) (code_of (record_of m.kind m.text m.number ++ rest)) (number_in letters (number_text (record_of m.kind m.text m.number ++ rest)))) held.0
    ∙ ap (λ (k : Kind). message_by k (code_of (record_of m.kind m.text m.number ++ rest)) (number_in letters (number_text (record_of m.kind m.text m.number ++ rest)))) (kind_letter m.kind)
    ∙ ap₂ (message_by m.kind) held.1 held.2

-- From the end of what stands before them, the messages of their records are these
records_left : (messages : List Message) → Each Recordable messages → (before : List ℕ)
    → left_from (before ++ records_of messages) (length before) ≡ messages
records_left [] so before =
    let page : List ℕ = before ++ [] in
    let end : length before ≡ length page = sym (ap length (append-nil before)) in
    left_none page (length before) (λ m later. ap (λ (f : Found). as_found f m later) (look_at_end page (length before) end))
records_left (m ∷ later) so before =
    let bytes : List ℕ = record_of m.kind m.text m.number in
    let rest : List ℕ = records_of later in
    let page : List ℕ = before ++ (bytes ++ rest) in
    let twenty = code_twenty m.text so.0.read in
    let thirty_one = record_length_lem m.kind m.text m.number twenty in
    let stretch : stretch_at page (length before) ≡ bytes ++ rest = drop_at before (bytes ++ rest) (length before) refl in
    let apart : length before ≡ length page → ⊥ = λ e. omega (arith, e, length-append before (bytes ++ rest), length-append bytes rest, thirty_one) in
    let long : record_length ≤ length (bytes ++ rest) = omega (arith, length-append bytes rest, thirty_one) in
    let writable : Writable m.text m.number (bytes ++ rest) = record { some = so.0.some; most = so.0.most; read = so.0.read; long = long } in
    let finds = look_stretch page (length before) apart ∙ ap found_in stretch ∙ record_found_lem m.kind m.text m.number twenty rest writable in
    let next : length before + record_length ≡ length (before ++ bytes) = omega (arith, length-append before bytes, thirty_one) in
    left_more page (length before) finds
    ∙ ap₂ (λ (s : List ℕ) (o : ℕ). message_in s ∷ left_from page o) stretch next
    ∙ ap₂ (λ (n : Message) (p : List ℕ). n ∷ left_from p (length (before ++ bytes))) (message_back m so.0 rest) (sym (append_assoc before bytes rest))
    ∙ ap (λ (l : List Message). m ∷ l) (records_left later so.1 (before ++ bytes))

-- Their page has as many records
records_length : (messages : List Message) → Each Recordable messages → length (records_of messages) ≡ record_length * length messages
records_length [] so = refl
records_length (m ∷ later) so =
    let one = record_length_lem m.kind m.text m.number (code_twenty m.text so.0.read) in
    omega (arith, length-append (record_of m.kind m.text m.number) (records_of later), one, records_length later so.1)

module _ (messages : List Message) (so : Each Recordable messages) where
  -- So the messages of their page are these
  pub records_messages : messages_of (records_of messages) ≡ messages
  records_messages = sym (left_all (records_of messages)) ∙ records_left messages so []

  -- and replay of it comes to its end, and gives the account and the count of each answer of sending them
  pub pages_replayed : replayed (records_of messages)
      ≡ replayed_by 0 (length (records_of messages)) (counts_of (sent empty messages)) (after empty messages)
  unfolding replayed
  pages_replayed =
      let page : List ℕ = records_of messages in
      let stop : stop_of page ≡ length page = ap (λ (l : List Message). record_length * length l) records_messages ∙ sym (records_length messages so) in
      ap₂ (λ (n o : ℕ). replayed_by n o (counts_of (sent empty (messages_of page))) (after empty (messages_of page)))
      (ap refusal_of (look_at_end page (stop_of page) stop))
      stop
      ∙ ap (λ (l : List Message). replayed_by 0 (length page) (counts_of (sent empty l)) (after empty l)) records_messages
