-- The laws of a lent account: arrays copied place by place, a message that leaves them as long as they were, and a replay that leaves 256 places. Assumes nothing.
use Rattle.std.specs.Prelude.{ℕ, ◌+◌, ◌≤◌, ◌<◌, ◌≡◌, refl, true, false, ◌&&◌, List, [], ◌∷◌, ◌++◌, eqb, length, take, set, get_or}
use Rattle.std.proofs.Common.{add-one, arith, ap, sym, subst, ◌∙◌, length-set, take-suc-set, take-suc, take_all, eq-eqb, ne_eqb, eqb-true}
use Rattle.std.proofs.Math.Bool.{and-false}
use Rattle.facts.specs.Tests.{both}
use Rattle.places.specs.Places.{places}
use Rattle.entitlements.specs.declared.Account.{Account}
use Rattle.entitlements.specs.declared.Answered.{Answered}
use Rattle.entitlements.specs.declared.Kind.{Kind}
use Rattle.entitlements.specs.Entitlements.{account_of, refusal, Done, done, does, message}
use Rattle.entitlements.specs.Sound.{Sized, empty_sound}
use Rattle.entitlements.proofs.Outcomes.{message_sized}
use Rattle.history.proofs.HistoryLaws.{after_sound}
use Rattle.replaying.specs.declared.Replayed.{Replayed}
use Rattle.replaying.specs.Replay.{messages_of, counts_of, replayed_by, replayed}
use Rattle.lending.specs.Lending.{is_account, lending, replayed_into}

-- The first i places of an array are those of another
pub record Copied (from array : List ℕ) (i : ℕ) : Type 0 where
  pub within : i ≤ places
  pub long : length array ≡ places
  pub same : take i array ≡ take i from

module _ (from : List ℕ) (all : length from ≡ places) where
  pub copied_begin : (array : List ℕ) → length array ≡ places → Copied from array 0
  copied_begin array h = record { within = omega arith; long = h; same = refl }

  pub copied_again : {array : List ℕ} {i : ℕ} → Copied from array i → i < places → Copied from (set array i (get_or from i 0)) (i + 1)
  copied_again {array} {i} p h = record {
    within = omega arith;
    long = length-set array i (get_or from i 0) ∙ p.long;
    same =
        ap (λ (k : ℕ). take k (set array i (get_or from i 0))) (add-one i)
        ∙ take-suc-set array i (get_or from i 0) (omega (arith, p.long))
        ∙ ap (λ (s : List ℕ). s ++ (get_or from i 0 ∷ [])) p.same
        ∙ sym (take-suc from i 0 (omega (arith, all)))
        ∙ ap (λ (k : ℕ). take k from) (sym (add-one i));
  }

  pub copied_end : {array : List ℕ} {i : ℕ} → Copied from array i → places ≤ i → array ≡ from
  copied_end {array} {i} p h =
      sym (take_all i array (omega (arith, p.long))) ∙ p.same ∙ take_all i from (omega (arith, all))

module _ (kind : Kind) (high low active : List ℕ) (last total : ℕ) (text : List ℕ) (number : ℕ) where
  abbrev Refuses : Type 0
  Refuses = lending kind high low active last total text number ≡ done (refusal 40) (account_of high low active last total)

  -- An array of another length is no account
  pub lending_high : (length high ≡ places → ⊥) → Refuses
  unfolding lending
  lending_high n = rw (ne_eqb (length high) places n)

  pub lending_low : (length low ≡ places → ⊥) → Refuses
  unfolding lending
  lending_low n = rw (ne_eqb (length low) places n, and-false)

  pub lending_active : (length active ≡ places → ⊥) → Refuses
  unfolding lending
  lending_active n = rw (ne_eqb (length active) places n, and-false, and-false)

  -- Three of 256 places are one
  pub lending_sends : length high ≡ places → length low ≡ places → length active ≡ places
      → lending kind high low active last total text number ≡ message kind (account_of high low active last total) text number
  unfolding lending
  lending_sends h l a = rw (eq-eqb (length high) places h, eq-eqb (length low) places l, eq-eqb (length active) places a)

  -- and whatever keeps the promise of the message has 256 places afterwards
  pub sends_sized : length high ≡ places → length low ≡ places → length active ≡ places → (r : Answered) {account : Account}
      → account ≡ account_of high low active last total → does r ≡ message kind account text number → Sized r.account
  sends_sized h l a r {account} e so =
      let whole : does r ≡ message kind (account_of high low active last total) text number =
      so ∙ ap (λ (from : Account). message kind from text number) e in
      subst (λ (d : Done). Sized d.account) (sym whole)
      (message_sized kind (account_of high low active last total) text number (record { highs = h; lows = l; actives = a }))

-- ---- By whether what is lent is an account

module _ (high low active : List ℕ) where
  -- An array of another length is no account
  pub high_none : (length high ≡ places → ⊥) → is_account high low active ≡ false
  high_none n = rw (ne_eqb (length high) places n)

  pub low_none : (length low ≡ places → ⊥) → is_account high low active ≡ false
  low_none n = rw (ne_eqb (length low) places n, and-false)

  -- and where two are long enough the third decides
  pub active_decides : length high ≡ places → length low ≡ places → eqb (length active) places ≡ is_account high low active
  active_decides h l = rw (eq-eqb (length high) places h, eq-eqb (length low) places l)

  -- Three arrays that are an account have 256 places each
  pub account_sized : is_account high low active ≡ true → (last total : ℕ) → Sized (account_of high low active last total)
  account_sized e last total =
      let first = both (eqb (length high) places) (eqb (length low) places && eqb (length active) places) e in
      let second = both (eqb (length low) places) (eqb (length active) places) first.1 in
      record {
        highs = eqb-true (length high) places first.0;
        lows = eqb-true (length low) places second.0;
        actives = eqb-true (length active) places second.1;
      }

module _ (kind : Kind) (high low active : List ℕ) (last total : ℕ) (text : List ℕ) (number : ℕ) where
  -- A message to what is no account is refused
  pub lending_refuses : is_account high low active ≡ false
      → lending kind high low active last total text number ≡ done (refusal 40) (account_of high low active last total)
  unfolding lending
  lending_refuses e = rw e

  -- and one to an account is sent
  pub account_sends : is_account high low active ≡ true
      → lending kind high low active last total text number ≡ message kind (account_of high low active last total) text number
  unfolding lending
  account_sends e = rw e

  -- Whatever keeps the promise of the message has 256 places afterwards
  pub account_sends_sized : is_account high low active ≡ true → (r : Answered) {account : Account} → account ≡ account_of high low active last total
      → does r ≡ message kind account text number → Sized r.account
  account_sends_sized lent r {account} e so =
      let whole : does r ≡ message kind (account_of high low active last total) text number =
      so ∙ ap (λ (from : Account). message kind from text number) e in
      subst (λ (d : Done). Sized d.account) (sym whole)
      (message_sized kind (account_of high low active last total) text number (account_sized high low active lent last total))

module _ (high low active page : List ℕ) where
  -- A replay into what is no account is refused
  pub replay_refuses : is_account high low active ≡ false
      → replayed_into high low active page ≡ replayed_by 40 0 (counts_of []) (account_of high low active 0 0)
  unfolding replayed_into
  replay_refuses e = rw e

  -- and one into an account is that of the page
  pub replay_replays : is_account high low active ≡ true → replayed_into high low active page ≡ replayed page
  unfolding replayed_into
  replay_replays e = rw e

-- Whatever keeps the promise of the replay has 256 places
pub replays_sized : (page : List ℕ) (r : Replayed) → r ≡ replayed page → Sized r.account
unfolding replayed
replays_sized page r e =
    subst (λ (d : Replayed). Sized d.account) (sym e) (after_sound (messages_of page) empty_sound).sized
