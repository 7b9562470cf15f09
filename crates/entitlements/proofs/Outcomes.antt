-- What can come of a message that is processed, row by row, and what holds of each: the account stays sound, how it is answered, and
-- the last number. Assumes nothing.
use Rattle.std.specs.Prelude.{ℕ, ◌≤◌, ◌<◌, ◌≡◌, Bool, cond, not, ◌||◌, List, [], eqb, length}
use Rattle.std.proofs.Common.{arith, ap, sym, ◌∙◌, true≢false}
use Rattle.std.proofs.Math.Path.{refl}
use Rattle.std.proofs.Math.Bool.{true, false}
use Rattle.std.proofs.Math.Dec.{ltb, leb}
use borrow.Author.Tests.{ltb-false, leb-false}
use Rattle.facts.specs.Tests.{neither}
use Rattle.halves.specs.Halves.{halves_in, readable}
use Rattle.halves.specs.HalvesLaws.{readable_code}
use Rattle.entitlements.specs.declared.Account.{Account}
use Rattle.entitlements.specs.declared.Kind.{Kind}
use Rattle.entitlements.specs.declared.Kind.TheVariants.{Activate, Cancel}
use Rattle.entitlements.specs.Entitlements.{
  place_of,
  is_active,
  free_place,
  is_full,
  Answering,
  activated,
  already,
  cancelled,
  not_active,
  old,
  refusal,
  full,
  Done,
  done,
  used,
  raised,
  lowered,
  taken,
  zeros,
  cleared,
  acting,
  activation,
  cancellation,
  largest,
  processing,
  no_account,
  message,
}
use Rattle.entitlements.specs.Sound.{Sized, Sound, message_refused, message_accepted, message_processing}
use Rattle.entitlements.proofs.Changes.{placed_sized, used_sound, taken_sound, cleared_sound}

-- A message that 41, 42 and "old" let pass
pub record Passes (account : Account) (text : List ℕ) (number : ℕ) : Type 0 where
  pub most : number ≤ largest
  pub legible : readable text ≡ true
  pub fresh : account.last < number

-- What can come of a message that is processed
pub data Outcome (account : Account) (text : List ℕ) (number : ℕ) : Kind → Done → Type 0 where
  no_number : {kind : Kind} → Outcome account text number kind (done (refusal 41) account)
  no_code : {kind : Kind} → Outcome account text number kind (done (refusal 42) account)
  too_old : {kind : Kind} → Outcome account text number kind (done old account)
  activates_again : Passes account text number → is_active account (halves_in text) ≡ true
      → Outcome account text number Activate (done already (used number account))
  finds_full : Passes account text number → is_active account (halves_in text) ≡ false → is_full account ≡ true
      → Outcome account text number Activate (done full (used number account))
  activates : Passes account text number → is_active account (halves_in text) ≡ false → is_full account ≡ false
      → Outcome account text number Activate (done activated (taken number account (halves_in text)))
  finds_inactive : Passes account text number → is_active account (halves_in text) ≡ false
      → Outcome account text number Cancel (done not_active (used number account))
  cancels : Passes account text number → is_active account (halves_in text) ≡ true
      → Outcome account text number Cancel (done cancelled (cleared number account (halves_in text)))

module _ (account : Account) (text : List ℕ) (number : ℕ) where
  -- What comes of a message that passes
  acting_outcome : (kind : Kind) → Passes account text number → Outcome account text number kind (acting kind account (halves_in text) number)
  unfolding activation cancellation
  acting_outcome Activate p = at (is_active account (halves_in text)) (is_full account) refl refl
    where
      at : (a f : Bool) → is_active account (halves_in text) ≡ a → is_full account ≡ f
          → Outcome account text number Activate
          (cond a (done already (used number account))
          (cond f (done full (used number account)) (done activated (taken number account (halves_in text)))))
      at true f e k = activates_again p e
      at false true e k = finds_full p e k
      at false false e k = activates p e k
  acting_outcome Cancel p = at (is_active account (halves_in text)) refl
    where
      at : (a : Bool) → is_active account (halves_in text) ≡ a
          → Outcome account text number Cancel
          (cond (not a) (done not_active (used number account)) (done cancelled (cleared number account (halves_in text))))
      at true e = cancels p e
      at false e = finds_inactive p e

  -- and of any that is processed
  pub outcome : (kind : Kind) → Outcome account text number kind (processing kind account text number)
  unfolding processing
  outcome kind = at (eqb number 0 || ltb largest number) (readable text) (leb number account.last) refl refl refl
    where
      at : (n r o : Bool) → (eqb number 0 || ltb largest number) ≡ n → readable text ≡ r → leb number account.last ≡ o
          → Outcome account text number kind
          (cond n (done (refusal 41) account)
          (cond (not r) (done (refusal 42) account) (cond o (done old account) (acting kind account (halves_in text) number))))
      at true r o e f g = no_number
      at false false o e f g = no_code
      at false true true e f g = too_old
      at false true false e f g =
          acting_outcome kind
          (record {
            most = ltb-false largest number (neither (eqb number 0) (ltb largest number) e).1;
            legible = f;
            fresh = leb-false number account.last g;
          })

-- ---- what holds of each

-- The account stays sound
outcome_sound : {account : Account} {text : List ℕ} {number : ℕ} {kind : Kind} {d : Done} → Sound account
    → Outcome account text number kind d → Sound d.account
outcome_sound sound no_number = sound
outcome_sound sound no_code = sound
outcome_sound sound too_old = sound
outcome_sound {number = number} sound (activates_again p e) = used_sound number p.most sound
outcome_sound {number = number} sound (finds_full p e f) = used_sound number p.most sound
outcome_sound {text = text} {number = number} sound (activates p e f) =
    taken_sound number (halves_in text) sound f p.most (readable_code text p.legible).0 e
outcome_sound {number = number} sound (finds_inactive p e) = used_sound number p.most sound
outcome_sound {text = text} {number = number} sound (cancels p e) = cleared_sound number (halves_in text) sound e p.most

-- and an account of 256 places keeps them
outcome_sized : {account : Account} {text : List ℕ} {number : ℕ} {kind : Kind} {d : Done} → Sized account
    → Outcome account text number kind d → Sized d.account
outcome_sized sized no_number = sized
outcome_sized sized no_code = sized
outcome_sized sized too_old = sized
outcome_sized sized (activates_again p e) = record { highs = sized.highs; lows = sized.lows; actives = sized.actives }
outcome_sized sized (finds_full p e f) = record { highs = sized.highs; lows = sized.lows; actives = sized.actives }
outcome_sized {account} {text} {number} sized (activates p e f) =
    placed_sized number (raised account.total) account (free_place account) (halves_in text) 1 sized
outcome_sized sized (finds_inactive p e) = record { highs = sized.highs; lows = sized.lows; actives = sized.actives }
outcome_sized {account} {text} {number} sized (cancels p e) =
    placed_sized number (lowered account.total) account (place_of account (halves_in text)) zeros 0 sized

-- 40 does not come
outcome_not_40 : {account : Account} {text : List ℕ} {number : ℕ} {kind : Kind} {d : Done} → Outcome account text number kind d
    → eqb d.answer.number 40 ≡ false
outcome_not_40 no_number = refl
outcome_not_40 no_code = refl
outcome_not_40 too_old = refl
outcome_not_40 (activates_again p e) = refl
outcome_not_40 (finds_full p e f) = refl
outcome_not_40 (activates p e f) = refl
outcome_not_40 (finds_inactive p e) = refl
outcome_not_40 (cancels p e) = refl

-- How an answer is told: in words of ten letters at most, or by the number of a refusal
pub data Spoken : Answering → Type 0 where
  in_words_lem : (words : List ℕ) (uses : Bool) → length words ≤ 10 → Spoken (record { number = 0; words = words; uses = uses })
  by_number : (number : ℕ) (uses : Bool) → eqb number 0 ≡ false → Spoken (record { number = number; words = []; uses = uses })

outcome_spoken : {account : Account} {text : List ℕ} {number : ℕ} {kind : Kind} {d : Done} → Outcome account text number kind d
    → Spoken d.answer
outcome_spoken no_number = by_number 41 false refl
outcome_spoken no_code = by_number 42 false refl
outcome_spoken too_old = in_words_lem old.words false (omega arith)
outcome_spoken (activates_again p e) = in_words_lem already.words true (omega arith)
outcome_spoken (finds_full p e f) = by_number 43 true refl
outcome_spoken (activates p e f) = in_words_lem activated.words true (omega arith)
outcome_spoken (finds_inactive p e) = in_words_lem not_active.words true (omega arith)
outcome_spoken (cancels p e) = in_words_lem cancelled.words true (omega arith)

-- What becomes of the message number: where it is used up, the message passed and it is the last one; where not, nothing has changed
pub record Numbered (account : Account) (text : List ℕ) (number : ℕ) (d : Done) : Type 0 where
  pub last : d.account.last ≡ cond d.answer.uses number account.last
  pub passes : d.answer.uses ≡ true → Passes account text number
  pub kept : d.answer.uses ≡ false → d.account ≡ account

module _ {account : Account} {text : List ℕ} {number : ℕ} where
  -- An answer that leaves the number, and one that uses it up
  leaves : (a : Answering) → a.uses ≡ false → Numbered account text number (done a account)
  leaves a u = record {
    last = ap (λ (b : Bool). cond b number account.last) (sym u);
    passes = λ v. absurd (true≢false (sym v ∙ u));
    kept = λ v. refl;
  }

  uses_up : Passes account text number → (a : Answering) → a.uses ≡ true → (next : Account) → next.last ≡ number
      → Numbered account text number (done a next)
  uses_up p a u next e = record {
    last = e ∙ ap (λ (b : Bool). cond b number account.last) (sym u);
    passes = λ v. p;
    kept = λ v. absurd (true≢false (sym u ∙ v));
  }

  -- Each is one of them
  outcome_numbered : {kind : Kind} {d : Done} → Outcome account text number kind d → Numbered account text number d
  outcome_numbered no_number = leaves (refusal 41) refl
  outcome_numbered no_code = leaves (refusal 42) refl
  outcome_numbered too_old = leaves old refl
  outcome_numbered (activates_again p e) = uses_up p already refl (used number account) refl
  outcome_numbered (finds_full p e f) = uses_up p full refl (used number account) refl
  outcome_numbered (activates p e f) = uses_up p activated refl (taken number account (halves_in text)) refl
  outcome_numbered (finds_inactive p e) = uses_up p not_active refl (used number account) refl
  outcome_numbered (cancels p e) = uses_up p cancelled refl (cleared number account (halves_in text)) refl

-- ---- what holds of messages

module _ (kind : Kind) (account : Account) (text : List ℕ) (number : ℕ) where
  -- Processing keeps an account sound
  pub processing_sound : Sound account → Sound (processing kind account text number).account
  processing_sound sound = outcome_sound sound (outcome account text number kind)

  -- and does not answer 40
  pub processing_not_40 : eqb (processing kind account text number).answer.number 40 ≡ false
  processing_not_40 = outcome_not_40 (outcome account text number kind)

  -- how it answers
  pub processing_spoken : Spoken (processing kind account text number).answer
  processing_spoken = outcome_spoken (outcome account text number kind)

  -- what it does with the number
  pub processing_numbered : Numbered account text number (processing kind account text number)
  processing_numbered = outcome_numbered (outcome account text number kind)

  -- A message keeps a sound account sound, and does not answer 40
  pub message_sound : Sound account → Sound (message kind account text number).account
  message_sound sound = rw (message_processing kind account text number sound) (processing_sound sound)

  pub message_not_40 : Sound account → eqb (message kind account text number).answer.number 40 ≡ false
  message_not_40 sound = rw (message_processing kind account text number sound) processing_not_40

  -- A message leaves 256 places, to a sound account or not
  pub message_sized : Sized account → Sized (message kind account text number).account
  message_sized sized = at (no_account account) refl
    where
      at : (b : Bool) → no_account account ≡ b → Sized (message kind account text number).account
      at true e = rw (message_refused kind account text number e) sized
      at false e = rw (message_accepted kind account text number e) (outcome_sized sized (outcome account text number kind))

  -- How a message is answered, likewise
  pub message_spoken : Spoken (message kind account text number).answer
  message_spoken = at (no_account account) refl
    where
      at : (b : Bool) → no_account account ≡ b → Spoken (message kind account text number).answer
      at true e = rw (message_refused kind account text number e) (by_number 40 false refl)
      at false e = rw (message_accepted kind account text number e) processing_spoken

  -- and what it does with the number
  pub message_numbered : Numbered account text number (message kind account text number)
  message_numbered = at (no_account account) refl
    where
      at : (b : Bool) → no_account account ≡ b → Numbered account text number (message kind account text number)
      at true e = rw (message_refused kind account text number e) (leaves (refusal 40) refl)
      at false e = rw (message_accepted kind account text number e) processing_numbered
