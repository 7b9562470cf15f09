-- The theorem of the history: what each message changes, what messages from any sound account on leave, and from empty; and the same
-- of whatever the functions hand back. Assumes nothing.
use Rattle.std.specs.Prelude.{ℕ, ◌+◌, ◌≡◌, refl, ◌≢◌, Bool, true, false, cond, not, ◌&&◌, ◌||◌, List, [], ◌∷◌, ◌++◌}
use Rattle.std.proofs.Common.{arith, ap, ap₂, sym, ◌∙◌}
use Rattle.std.proofs.lemmas.Bool.{eqb-false}
use Rattle.facts.specs.Lists.{Each}
use Rattle.facts.specs.Texts.{bytes}
use Rattle.halves.specs.declared.Halves.{Halves}
use Rattle.halves.specs.Halves.{halves_in, same_code}
use Rattle.places.specs.Places.{count_active}
use Rattle.entitlements.specs.declared.Account.{Account}
use Rattle.entitlements.specs.declared.Answered.{Answered}
use Rattle.entitlements.specs.declared.Kind.{Kind}
use Rattle.entitlements.specs.Entitlements.{empty, is_active, Done, processing}
use Rattle.entitlements.specs.Active.{same_code_lem}
use Rattle.entitlements.specs.Sound.{Sound, empty_sound, empty_active, empty_count, message_processing}
use Rattle.entitlements.proofs.Changes.{taken_active, taken_count, cleared_active, cleared_count}
use Rattle.entitlements.proofs.Outcomes.{
  Outcome,
  no_number,
  no_code,
  too_old,
  activates_again,
  finds_full,
  activates,
  finds_inactive,
  cancels,
  outcome,
  message_sound,
  message_not_40,
  message_numbered,
}
use Rattle.history.specs.History.{
  Message,
  send,
  after,
  Sent,
  sent_by,
  sent,
  is_activation,
  counts,
  concerns,
  latest,
  latest_number,
  one,
  times,
  Kept,
  Handed,
  nothing,
  handed,
  last_account,
  told,
}

-- ---- what changes in each row

-- Where a code is as told already, it stays as it was
as_it_was : (account : Account) (told code : Halves) {b : Bool} → is_active account told ≡ b
    → is_active account code ≡ cond (same_code told code) b (is_active account code)
as_it_was account told code {b} e = at (same_code told code) refl
  where
    at : (s : Bool) → same_code told code ≡ s → is_active account code ≡ cond s b (is_active account code)
    at true s = ap (is_active account) (sym (same_code_lem told code s)) ∙ e
    at false s = refl

module _ {account : Account} {text : List ℕ} {number : ℕ} (sound : Sound account) where
  -- The code of a message that counts is active where this is an activation, and any other as it was
  outcome_active : {kind : Kind} {d : Done} → Outcome account text number kind d → (code : Halves)
      → is_active d.account code
      ≡ cond (counts d.answer && same_code (halves_in text) code) (is_activation kind) (is_active account code)
  outcome_active no_number code = refl
  outcome_active no_code code = refl
  outcome_active too_old code = refl
  outcome_active (activates_again p e) code = as_it_was account (halves_in text) code e
  outcome_active (finds_full p e f) code = refl
  outcome_active (activates p e f) code =
      taken_active number (halves_in text) sound f code ∙ either (same_code (halves_in text) code) (is_active account code)
    where
      either : (a b : Bool) → (a || b) ≡ cond a true b
      either true b = refl
      either false b = refl
  outcome_active (finds_inactive p e) code = as_it_was account (halves_in text) code e
  outcome_active (cancels p e) code =
      cleared_active number (halves_in text) sound e code ∙ without (same_code (halves_in text) code) (is_active account code)
    where
      without : (a b : Bool) → (not a && b) ≡ cond a false b
      without true b = refl
      without false b = refl

  -- One more place is active for "activated", one less for "cancelled"
  outcome_count : {kind : Kind} {d : Done} → Outcome account text number kind d
      → count_active d.account.active + one (bytes "cancelled") d.answer
      ≡ count_active account.active + one (bytes "activated") d.answer
  outcome_count no_number = refl
  outcome_count no_code = refl
  outcome_count too_old = refl
  outcome_count (activates_again p e) = refl
  outcome_count (finds_full p e f) = refl
  outcome_count (activates p e f) = omega (arith, taken_count number (halves_in text) sound f)
  outcome_count (finds_inactive p e) = refl
  outcome_count (cancels p e) = omega (arith, cleared_count number (halves_in text) sound e)

-- ---- what a message to a sound account changes

module _ {account : Account} (sound : Sound account) (m : Message) where
  -- It is processed
  sent_processed : send account m ≡ processing m.kind account m.text m.number
  sent_processed = message_processing m.kind account m.text m.number sound

  -- so one of the rows comes of it
  sent_outcome : Outcome account m.text m.number m.kind (send account m)
  sent_outcome = rw sent_processed (outcome account m.text m.number m.kind)

  -- A message with its answer
  abbrev pub answered : Sent
  answered = sent_by m (send account m).answer

  -- Its code is active where it counts and is an activation, and any other as it was
  pub send_active : (code : Halves) → is_active (send account m).account code
      ≡ cond (concerns code answered) (is_activation m.kind) (is_active account code)
  send_active = outcome_active sound sent_outcome

  -- One more place is active for "activated", one less for "cancelled"
  pub send_count : count_active (send account m).account.active + one (bytes "cancelled") answered.answer
      ≡ count_active account.active + one (bytes "activated") answered.answer
  send_count = outcome_count sound sent_outcome

  -- and the account stays sound
  pub send_sound : Sound (send account m).account
  send_sound = message_sound m.kind account m.text m.number sound

-- ---- what messages from a sound account on leave

-- A sound account
pub after_sound : (messages : List Message) {account : Account} → Sound account → Sound (after account messages)
after_sound [] sound = sound
after_sound (m ∷ later) sound = after_sound later (send_sound sound m)

-- The codes whose latest that counts was an activation, or that were active and have none
pub after_active : (messages : List Message) {account : Account} → Sound account → (code : Halves)
    → is_active (after account messages) code ≡ latest code (is_active account code) (sent account messages)
after_active [] sound code = refl
after_active (m ∷ later) {account} sound code =
    after_active later (send_sound sound m) code
    ∙ ap (λ (b : Bool). latest code b (sent (send account m).account later)) (send_active sound m code)

-- As many active places as there were, with the "activated" answers and without the "cancelled" ones
pub after_count : (messages : List Message) {account : Account} → Sound account
    → count_active (after account messages).active + times (bytes "cancelled") (sent account messages)
    ≡ count_active account.active + times (bytes "activated") (sent account messages)
after_count [] sound = refl
after_count (m ∷ later) {account} sound = omega (arith, send_count sound m, after_count later (send_sound sound m))

-- The latest number used up
pub after_last : (messages : List Message) (account : Account)
    → (after account messages).last ≡ latest_number account.last (sent account messages)
after_last [] account = refl
after_last (m ∷ later) account =
    after_last later (send account m).account
    ∙ ap (λ (n : ℕ). latest_number n (sent (send account m).account later))
    (message_numbered m.kind account m.text m.number).last

-- and no answer 40
pub after_not_40 : (messages : List Message) {account : Account} → Sound account
    → Each (λ (s : Sent). s.answer.number ≢ 40) (sent account messages)
after_not_40 [] sound = tt
after_not_40 (m ∷ later) {account} sound = (
  eqb-false (send account m).answer.number 40 (message_not_40 m.kind account m.text m.number sound),
  after_not_40 later (send_sound sound m),
)

-- ---- what the latest is

module _ (code : Halves) where
  -- No message concerns the code
  abbrev pub NoneConcerns : List Sent → Type 0
  NoneConcerns = Each (λ (s : Sent). concerns code s ≡ false)

  -- Then what was told before holds
  pub latest_none : (all : List Sent) (before : Bool) → NoneConcerns all → latest code before all ≡ before
  latest_none [] before none = refl
  latest_none (s ∷ later) before none = rw none.0 (latest_none later before none.1)

  -- Where one concerns it and none later does, that one tells, whatever came earlier
  pub latest_tells : (earlier : List Sent) (s : Sent) (later : List Sent) (before : Bool) → concerns code s ≡ true → NoneConcerns later
      → latest code before (earlier ++ s ∷ later) ≡ is_activation s.message.kind
  latest_tells [] s later before such none =
      let tells = ap (λ (b : Bool). cond b (is_activation s.message.kind) before) such in
      ap (λ (told : Bool). latest code told later) tells ∙ latest_none later (is_activation s.message.kind) none
  latest_tells (e ∷ earlier) s later before such none =
      latest_tells earlier s later (cond (concerns code e) (is_activation e.message.kind) before) such none

-- ---- messages and more messages

-- More messages go on from the account that the first leave
pub after_append : (messages more : List Message) (account : Account)
    → after account (messages ++ more) ≡ after (after account messages) more
after_append [] more account = refl
after_append (m ∷ later) more account = after_append later more (send account m).account

-- and so do the answers
pub sent_append : (messages more : List Message) (account : Account)
    → sent account (messages ++ more) ≡ sent account messages ++ sent (after account messages) more
sent_append [] more account = refl
sent_append (m ∷ later) more account =
    ap (λ (s : List Sent). sent_by m (send account m).answer ∷ s) (sent_append later more (send account m).account)

-- How often an answer came is counted part by part
pub times_append : (words : List ℕ) (all more : List Sent) → times words (all ++ more) ≡ times words all + times words more
times_append words [] more = omega arith
times_append words (s ∷ later) more = omega (arith, times_append words later more)

-- ---- from empty

-- What is said of any messages from empty
pub kept : (messages : List Message) → Kept (after empty messages) (sent empty messages)
kept messages = record {
  active = λ code. after_active messages empty_sound code ∙ ap (λ (b : Bool). latest code b (sent empty messages)) (empty_active code);
  total = (after_sound messages empty_sound).counted;
  number = omega (arith, (after_sound messages empty_sound).counted, after_count messages empty_sound, empty_count);
  fewer = omega (arith, after_count messages empty_sound, empty_count);
  single = (after_sound messages empty_sound).single;
  read = (after_sound messages empty_sound).read;
  last = after_last messages empty;
  within = (after_sound messages empty_sound).within;
  not_40 = after_not_40 messages empty_sound;
}

-- ---- through the functions

-- What the functions hand back is the account after the messages
handed_account : {account : Account} {messages : List Message} {replies : List Answered} → Handed account messages replies
    → last_account account replies ≡ after account messages
handed_account nothing = refl
handed_account (handed {later = later} e more) = handed_account more ∙ ap (λ (d : Done). after d.account later) e

-- and what they answer is what the messages were answered
handed_told : {account : Account} {messages : List Message} {replies : List Answered} → Handed account messages replies
    → told messages replies ≡ sent account messages
handed_told nothing = refl
handed_told (handed {m = m} {later = later} e more) =
    ap₂ ◌∷◌ (ap (λ (d : Done). sent_by m d.answer) e) (handed_told more ∙ ap (λ (d : Done). sent d.account later) e)

-- So it is said of whatever they hand back, one by one from empty
pub kept_handed : {messages : List Message} {replies : List Answered} → Handed empty messages replies
    → Kept (last_account empty replies) (told messages replies)
kept_handed {messages} h = rw (handed_account h, handed_told h) (kept messages)
