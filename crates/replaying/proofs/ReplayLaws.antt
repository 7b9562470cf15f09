-- The laws of replay: the messages from an offset on, record by record; a record is sent as `change` changes the account; and the loop of
-- `replay`, where what is done so far, with what is left of the page, is the whole. Assumes nothing.
use Rattle.std.specs.Prelude.{◌≡◌, ℕ, zero, suc, ◌+◌, ◌-◌, ◌*◌, ◌/◌, ◌%◌, ◌^◌, ◌<◌, ◌≤◌, Bool, true, false, cond, List, [], ◌∷◌, length, ◌==◌, Some, None, Ok, Err}
use Rattle.std.proofs.Common.{mod-eq_of_lt, arith, sym, ◌∙◌, subst}
use Rattle.std.proofs.Math.Path.{refl, ap, ap₂}
use Rattle.facts.specs.Texts.{bytes, same_text}
use Rattle.halves.specs.HalvesLaws.{code_reads}
use Rattle.entitlements.specs.declared.Account.{Account}
use Rattle.entitlements.specs.declared.Answer.{Answer}
use Rattle.entitlements.specs.declared.Answer.TheVariants as answer
use Rattle.entitlements.specs.Entitlements.{empty, says, Done}
use Rattle.entitlements.specs.Sound.{Sound, empty_sound, message_processing}
use Rattle.entitlements.proofs.Outcomes.{message_sound}
use Rattle.index.specs.Index.{slot_count, looked_up}
use Rattle.index.specs.IndexLaws.{Indexed, looked_place, empty_indexed}
use Rattle.change.specs.declared.Change.{Change}
use Rattle.change.specs.Change.{makes, change_at, change_by}
use Rattle.change.specs.ChangeLaws.{change_processing, change_read}
use Rattle.history.specs.History.{Message, send, after, Sent, sent_by, sent, one, times}
use Rattle.page.specs.declared.LookError.TheVariants as look
use Rattle.page.specs.declared.Record.{Record}
use Rattle.page.specs.Page.{Found, record_length, stretch_at, look_at, refusal_of}
use Rattle.page.proofs.PageLaws.{look_recorded, look_within, recorded_right}
use Rattle.recall.specs.declared.Slot.{Slot}
use Rattle.recall.specs.Recall.{recalled, remembered}
use Rattle.recall.specs.RecallLaws.{Recalls, empty_slots, recalls_begin, recalled_look, recalls_note}
use Rattle.replaying.specs.declared.Counts.{Counts}
use Rattle.replaying.specs.Replay.{message_in, as_found, messages_from, messages_of, stop_of, times_refused, counts_of, replayed_by, replayed}
use Rattle.replaying.specs.Tally.{rank_of, more_of, tallied}
use Rattle.replaying.specs.Indexing.{noted_step, change_indexed}

-- ---- the messages from an offset on

-- of as many records as there is room for
abbrev pub left_from : List ℕ → ℕ → List Message
left_from page offset = messages_from ((length page - offset) / record_length) page offset

module _ (page : List ℕ) (offset : ℕ) where
  -- a record's, and then those after it
  pub left_more : {r : Record} → look_at page offset ≡ Ok (Some r)
      → left_from page offset ≡ message_in (stretch_at page offset) ∷ left_from page (offset + record_length)
  unfolding messages_from
  left_more f =
      let room : offset + record_length ≤ length page = look_within page offset f in
      let one : (length page - offset) / record_length ≡ suc ((length page - (offset + record_length)) / record_length) = omega (arith, room) in
      ap (λ (n : ℕ). messages_from n page offset) one
      ∙ ap
      (λ (f : Found). as_found f (message_in (stretch_at page offset)) (left_from page (offset + record_length)))
      f

  -- none where no record is found
  pub left_none : ((m : Message) (later : List Message) → as_found (look_at page offset) m later ≡ []) → left_from page offset ≡ []
  unfolding messages_from
  left_none none = at ((length page - offset) / record_length)
    where
      at : (n : ℕ) → messages_from n page offset ≡ []
      at zero = refl
      at (suc n) = none (message_in (stretch_at page offset)) (messages_from n page (offset + record_length))

-- from the start on, all
pub left_all : (page : List ℕ) → left_from page 0 ≡ messages_of page
left_all page =
    let whole : length page - 0 ≡ length page = omega arith in
    ap (λ (n : ℕ). messages_from (n / record_length) page 0) whole

-- no more than there is room for
pub messages_most : (n : ℕ) (page : List ℕ) (offset : ℕ) → length (messages_from n page offset) ≤ n
unfolding messages_from
messages_most zero page offset = omega arith
messages_most (suc n) page offset =
    at (look_at page offset) (message_in (stretch_at page offset)) (messages_from n page (offset + record_length)) (messages_most n page (offset + record_length))
  where
    at : (f : Found) (m : Message) (later : List Message) → length later ≤ n → length (as_found f m later) ≤ suc n
    at (Ok (Some r)) m later h = omega arith
    at (Ok None) m later h = omega arith
    at (Err look.Cut) m later h = omega arith
    at (Err look.Mark) m later h = omega arith
    at (Err look.Content) m later h = omega arith

-- ---- a record is sent as `change` changes the account

pub record_sent : (page : List ℕ) (offset : ℕ) {r : Record} {account : Account} → look_at page offset ≡ Ok (Some r) → Sound account
    → send account (message_in (stretch_at page offset)) ≡ makes (change_by r.kind account r.code r.number) account
record_sent page offset {r} {account} f sound =
    let m : Message = message_in (stretch_at page offset) in
    let so = look_recorded page offset f in
    let right = recorded_right so in
    message_processing m.kind account m.text m.number sound
    ∙ sym (change_processing m.kind account m.text m.number)
    ∙ ap (λ (c : Change). makes c account) (change_read m.kind account m.text m.number right.some right.most (code_reads m.text right.read))
    ∙ ap (λ (s : Record). makes (change_by s.kind account s.code s.number) account) so.holds

-- ---- counting

-- a count, with what is left to be counted, is the whole, which a machine can count
pub record Sums (count left whole : ℕ) : Type 0 where
  pub sum : count + left ≡ whole
  pub small : whole < 2 ^ 64

-- and so are all six
pub record Adds (counts left whole : Counts) : Type 0 where
  pub activated : Sums counts.activated left.activated whole.activated
  pub already : Sums counts.already left.already whole.already
  pub cancelled : Sums counts.cancelled left.cancelled whole.cancelled
  pub inactive : Sums counts.inactive left.inactive whole.inactive
  pub old : Sums counts.old left.old whole.old
  pub full : Sums counts.full left.full whole.full

-- 1 for the rank that is counted, 0 for any other
abbrev hit : ℕ → ℕ → ℕ
hit rank counted = cond (rank == counted) 1 0

-- one count with one more answer
more_one : {count now left whole : ℕ} (rank counted : ℕ) → now ≡ hit rank counted → Sums count (now + left) whole
    → Sums (more_of count rank counted) left whole
more_one {count} {now} {left} {whole} rank counted e so = record { sum = at (rank == counted) e; small = so.small }
  where
    at : (b : Bool) → now ≡ cond b 1 0 → cond b ((count + 1) % 2 ^ 64) count + left ≡ whole
    at true k =
        let fits : (count + 1) % 2 ^ 64 ≡ count + 1 = mod-eq_of_lt (omega (arith, k, so.sum, so.small)) in
        omega (arith, fits, k, so.sum)
    at false k = omega (arith, k, so.sum)

-- each count counts the answer of its rank
record Ranked (a : Answer) : Type 0 where
  pub activated : one (bytes "activated") (says a) ≡ hit (rank_of a) 1
  pub already : one (bytes "already") (says a) ≡ hit (rank_of a) 2
  pub cancelled : one (bytes "cancelled") (says a) ≡ hit (rank_of a) 3
  pub inactive : one (bytes "not active") (says a) ≡ hit (rank_of a) 4
  pub old : one (bytes "old") (says a) ≡ hit (rank_of a) 5
  pub full : cond ((says a).number == 43) 1 0 ≡ hit (rank_of a) 6

ranked : (a : Answer) → Ranked a
ranked answer.Activated = record { activated = refl; already = refl; cancelled = refl; inactive = refl; old = refl; full = refl }
ranked answer.Already = record { activated = refl; already = refl; cancelled = refl; inactive = refl; old = refl; full = refl }
ranked answer.Cancelled = record { activated = refl; already = refl; cancelled = refl; inactive = refl; old = refl; full = refl }
ranked answer.NotActive = record { activated = refl; already = refl; cancelled = refl; inactive = refl; old = refl; full = refl }
ranked answer.Old = record { activated = refl; already = refl; cancelled = refl; inactive = refl; old = refl; full = refl }
ranked answer.Full = record { activated = refl; already = refl; cancelled = refl; inactive = refl; old = refl; full = refl }
ranked answer.Account = record { activated = refl; already = refl; cancelled = refl; inactive = refl; old = refl; full = refl }
ranked answer.Number = record { activated = refl; already = refl; cancelled = refl; inactive = refl; old = refl; full = refl }
ranked answer.Code = record { activated = refl; already = refl; cancelled = refl; inactive = refl; old = refl; full = refl }

-- an answer further
adds_step : {counts whole : Counts} (m : Message) (a : Answer) (later : List Sent)
    → Adds counts (counts_of (sent_by m (says a) ∷ later)) whole → Adds (tallied counts a) (counts_of later) whole
adds_step m a later so =
    let each = ranked a in
    record {
      activated = more_one (rank_of a) 1 each.activated so.activated;
      already = more_one (rank_of a) 2 each.already so.already;
      cancelled = more_one (rank_of a) 3 each.cancelled so.cancelled;
      inactive = more_one (rank_of a) 4 each.inactive so.inactive;
      old = more_one (rank_of a) 5 each.old so.old;
      full = more_one (rank_of a) 6 each.full so.full;
    }

-- No answer comes more often than there are answers
sent_length : (messages : List Message) (account : Account) → length (sent account messages) ≡ length messages
sent_length [] account = refl
sent_length (m ∷ later) account = ap suc (sent_length later (send account m).account)

times_most : (words : List ℕ) (all : List Sent) → times words all ≤ length all
times_most words [] = omega arith
times_most words (s ∷ later) = at (same_text s.answer.words words) (times_most words later)
  where
    at : (b : Bool) → times words later ≤ length later → cond b 1 0 + times words later ≤ suc (length later)
    at true h = omega arith
    at false h = omega arith

refused_most : (number : ℕ) (all : List Sent) → times_refused number all ≤ length all
refused_most number [] = omega arith
refused_most number (s ∷ later) = at (s.answer.number == number) (refused_most number later)
  where
    at : (b : Bool) → times_refused number later ≤ length later → cond b 1 0 + times_refused number later ≤ suc (length later)
    at true h = omega arith
    at false h = omega arith

-- so that none is too large to be counted
adds_begin : (all : List Sent) → length all < 2 ^ 64 → Adds (counts_of []) (counts_of all) (counts_of all)
adds_begin all h = record {
  activated = record { sum = omega arith; small = omega (arith, h, times_most (bytes "activated") all) };
  already = record { sum = omega arith; small = omega (arith, h, times_most (bytes "already") all) };
  cancelled = record { sum = omega arith; small = omega (arith, h, times_most (bytes "cancelled") all) };
  inactive = record { sum = omega arith; small = omega (arith, h, times_most (bytes "not active") all) };
  old = record { sum = omega arith; small = omega (arith, h, times_most (bytes "old") all) };
  full = record { sum = omega arith; small = omega (arith, h, refused_most 43 all) };
}

-- Where nothing is left the counts are the whole
abbrev pub counts_by : ℕ → ℕ → ℕ → ℕ → ℕ → ℕ → Counts
counts_by activated already cancelled inactive old full =
    record { activated = activated; already = already; cancelled = cancelled; inactive = inactive; old = old; full = full }

none_left : {count whole : ℕ} → Sums count 0 whole → count ≡ whole
none_left so = omega (arith, so.sum)

adds_end : (counts whole : Counts) → Adds counts (counts_of []) whole → counts ≡ whole
adds_end counts whole so =
    ap (λ (n : ℕ). counts_by n counts.already counts.cancelled counts.inactive counts.old counts.full) (none_left so.activated)
    ∙ ap (λ (n : ℕ). counts_by whole.activated n counts.cancelled counts.inactive counts.old counts.full) (none_left so.already)
    ∙ ap (λ (n : ℕ). counts_by whole.activated whole.already n counts.inactive counts.old counts.full) (none_left so.cancelled)
    ∙ ap (λ (n : ℕ). counts_by whole.activated whole.already whole.cancelled n counts.old counts.full) (none_left so.inactive)
    ∙ ap (λ (n : ℕ). counts_by whole.activated whole.already whole.cancelled whole.inactive n counts.full) (none_left so.old)
    ∙ ap (λ (n : ℕ). counts_by whole.activated whole.already whole.cancelled whole.inactive whole.old n) (none_left so.full)

-- ---- the loop

-- the page's length is a machine's number; what was found at the offset; the codes that were read are remembered as they were; the slots find
-- each code's place in the account; the account and the counts so far, with the messages that are left, give those of the whole page
pub record Replaying (page slots : List ℕ) (read : List Slot) (account : Account) (counts : Counts) (offset : ℕ) (here : Found) : Type 0 where
  pub few : length page < 2 ^ 64
  pub found : here ≡ look_at page offset
  pub sound : Sound account
  pub recalls : Recalls page read
  pub indexed : Indexed slots account
  pub left : after account (left_from page offset) ≡ after empty (messages_of page)
  pub counted : Adds counts (counts_of (sent account (left_from page offset))) (counts_of (sent empty (messages_of page)))
  pub passed : offset + record_length * length (left_from page offset) ≡ stop_of page

pub replaying_begin : (page : List ℕ) {slots : List ℕ} {here : Found} → length page < 2 ^ 64 → length slots ≡ slot_count → here ≡ look_at page 0
    → Replaying page slots empty_slots empty (counts_of []) 0 here
replaying_begin page h k e =
    let few : length (sent empty (messages_of page)) < 2 ^ 64 =
    omega (arith, h, sent_length (messages_of page) empty, messages_most (length page / record_length) page 0) in
    record {
      few = h;
      found = e;
      sound = empty_sound;
      recalls = recalls_begin page;
      indexed = empty_indexed k;
      left = ap (after empty) (left_all page);
      counted = rw (left_all page) (adds_begin (sent empty (messages_of page)) few);
      passed = rw (left_all page) (omega arith);
    }

module _ {page slots : List ℕ} {read : List Slot} {account : Account} {counts : Counts} {offset : ℕ} {here : Found}
    (so : Replaying page slots read account counts offset here) where
  -- a record further
  module _ {r : Record} (e : here ≡ Ok (Some r)) where
    at_record : look_at page offset ≡ Ok (Some r)
    at_record = sym so.found ∙ e

    pub replaying_room : offset + record_length ≤ length page
    replaying_room = look_within page offset at_record

    -- what is found in the slots is the place of its code
    pub replaying_change : {place : ℕ} (change : Change) → place ≡ looked_up slots account.high account.low account.active r.code
        → change ≡ change_at r.kind account.active account.last account.total place r.code r.number
        → change ≡ change_by r.kind account r.code r.number
    replaying_change change p c =
        c
        ∙ ap (λ (i : ℕ). change_at r.kind account.active account.last account.total i r.code r.number)
        (p ∙ looked_place so.indexed r.code)

    pub replaying_step : (change : Change) {later : List ℕ} {read' : List Slot} {next : Account} {there : Found}
        → read' ≡ remembered read page offset r.code → change ≡ change_by r.kind account r.code r.number
        → later ≡ noted_step slots account.high account.low account.active change.step
        → next ≡ (makes change account).account → there ≡ recalled read' page (offset + record_length)
        → Replaying page later read' next (tallied counts change.answer) (offset + record_length) there
    replaying_step change {later} {read'} {next} {there} er c l n f =
        let m : Message = message_in (stretch_at page offset) in
        let rest : List Message = left_from page (offset + record_length) in
        let sends : send account m ≡ makes change account =
        record_sent page offset at_record so.sound ∙ ap (λ (d : Change). makes d account) (sym c) in
        let left = left_more page offset at_record in
        let remembers : Recalls page read' = rw er (recalls_note so.recalls offset at_record so.few) in
        let same : next ≡ (send account m).account = n ∙ ap (λ (d : Done). d.account) (sym sends) in
        let all : sent account (left_from page offset) ≡ sent_by m (says change.answer) ∷ sent next rest =
        ap (sent account) left
        ∙ ap (λ (d : Done). sent_by m d.answer ∷ sent d.account rest) sends
        ∙ ap (λ (a : Account). sent_by m (says change.answer) ∷ sent a rest) (sym n) in
        record {
          few = so.few;
          found = f ∙ recalled_look remembers (offset + record_length);
          recalls = remembers;
          sound = rw same (message_sound m.kind account m.text m.number so.sound);
          indexed = rw (l, n, c) (change_indexed so.indexed so.sound.sized r.code r.number r.kind);
          left = ap (λ (a : Account). after a rest) same ∙ ap (after account) (sym left) ∙ so.left;
          counted =
              adds_step m change.answer (sent next rest)
              (subst (λ (l : List Sent). Adds counts (counts_of l) (counts_of (sent empty (messages_of page)))) all so.counted);
          passed = omega (arith, so.passed, ap length left);
        }

  -- to where no record is found
  pub replaying_end : ((m : Message) (later : List Message) → as_found here m later ≡ []) → {refusal : ℕ} → refusal ≡ refusal_of here
      → replayed_by refusal offset counts account ≡ replayed page
  unfolding replayed
  replaying_end none {refusal} e =
      let over : left_from page offset ≡ [] = left_none page offset (λ m later. ap (λ (f : Found). as_found f m later) (sym so.found) ∙ none m later) in
      let stop : offset ≡ stop_of page = omega (arith, so.passed, ap length over) in
      let tells : refusal ≡ refusal_of (look_at page (stop_of page)) = e ∙ ap refusal_of so.found ∙ ap (λ (o : ℕ). refusal_of (look_at page o)) stop in
      let same : account ≡ after empty (messages_of page) = ap (after account) (sym over) ∙ so.left in
      let whole = counts_of (sent empty (messages_of page)) in
      let all : counts ≡ whole = adds_end counts whole (subst (λ (l : List Message). Adds counts (counts_of (sent account l)) whole) over so.counted) in
      ap₂ (λ (n o : ℕ). replayed_by n o counts account) tells stop
      ∙ ap₂ (replayed_by (refusal_of (look_at page (stop_of page))) (stop_of page)) all same
