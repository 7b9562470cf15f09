-- No second answer satisfies the promise of a message to a lent account, or of a replay into one: its numbers are found back from what it
-- says. Assumes nothing.
use Rattle.std.specs.Prelude.{ℕ, ◌≡◌, refl, Bool, true, false, cond, List, eqb, length, get_or}
use Rattle.std.proofs.Common.{ap, ap₂, sym, ◌∙◌, eqb-true}
use Rattle.facts.specs.Once.{once}
use Rattle.entitlements.specs.declared.Account.{Account}
use Rattle.entitlements.specs.Entitlements.{Answering, Done}
use Rattle.replaying.specs.declared.Replayed.{Replayed}
use Rattle.lending.specs.declared.Lent.{Lent}
use Rattle.lending.specs.declared.LentReplay.{LentReplay}
use Rattle.lending.specs.Lending.{answering, lends, replays}

-- The number of an answer: a refusal's own, or by the second letter and the length of its words
abbrev number_of : Answering → ℕ
number_of a =
    cond (eqb a.number 0)
    (cond (eqb (length a.words) 0) 0
    (cond (eqb (length a.words) 7) 2
    (cond (eqb (length a.words) 10) 4
    (cond (eqb (length a.words) 3) 5 (cond (eqb (get_or a.words 1 0) 99) 1 3)))))
    a.number

-- It is found back
number_found : (n : ℕ) → number_of (answering n) ≡ n
number_found n = at (eqb n 1) (eqb n 2) (eqb n 3) (eqb n 4) (eqb n 5) (eqb n 43) refl refl refl refl refl refl
  where
    own : (b : Bool) → eqb n 0 ≡ b → cond b 0 n ≡ n
    own true e = sym (eqb-true n 0 e)
    own false e = refl

    at : (a b c d e f : Bool) → eqb n 1 ≡ a → eqb n 2 ≡ b → eqb n 3 ≡ c → eqb n 4 ≡ d → eqb n 5 ≡ e → eqb n 43 ≡ f
        → number_of (answering n) ≡ n
    at true b c d e f p q r s t u = rw p (sym (eqb-true n 1 p))
    at false true c d e f p q r s t u = rw (p, q) (sym (eqb-true n 2 q))
    at false false true d e f p q r s t u = rw (p, q, r) (sym (eqb-true n 3 r))
    at false false false true e f p q r s t u = rw (p, q, r, s) (sym (eqb-true n 4 s))
    at false false false false true f p q r s t u = rw (p, q, r, s, t) (sym (eqb-true n 5 t))
    at false false false false false true p q r s t u = rw (p, q, r, s, t, u) (sym (eqb-true n 43 u))
    at false false false false false false p q r s t u = rw (p, q, r, s, t, u) (own (eqb n 0) refl)

abbrev lent_of : ℕ → Account → Lent
lent_of answer account = record { answer = answer; last = account.last; total = account.total }

-- Two answers, and arrays afterwards, that meet the promise are the same
pub lent_once : (d : Done) (r s : Lent) (high other_high low other_low active other_active : List ℕ) → lends r high low active ≡ d
    → lends s other_high other_low other_active ≡ d → (r ≡ s) × (high ≡ other_high) × (low ≡ other_low) × (active ≡ other_active)
lent_once d r s high other_high low other_low active other_active e k =
    let same = once e k in
    let number = sym (number_found r.answer) ∙ ap (λ (x : Done). number_of x.answer) same ∙ number_found s.answer in (
      ap₂ lent_of number (ap (λ (x : Done). x.account) same),
      ap (λ (x : Done). x.account.high) same,
      ap (λ (x : Done). x.account.low) same,
      ap (λ (x : Done). x.account.active) same,
    )

abbrev lent_replay_of : Replayed → LentReplay
lent_replay_of d = record {
  refusal = d.refusal;
  offset = d.offset;
  activated = d.counts.activated;
  already = d.counts.already;
  cancelled = d.counts.cancelled;
  inactive = d.counts.inactive;
  old = d.counts.old;
  full = d.counts.full;
  last = d.account.last;
  total = d.account.total;
}

-- Two answers, and arrays afterwards, that meet the promise of a replay are the same
pub replay_once : (d : Replayed) (r s : LentReplay) (high other_high low other_low active other_active : List ℕ)
    → replays r high low active ≡ d → replays s other_high other_low other_active ≡ d
    → (r ≡ s) × (high ≡ other_high) × (low ≡ other_low) × (active ≡ other_active)
replay_once d r s high other_high low other_low active other_active e k =
    let same = once e k in (
      ap lent_replay_of same,
      ap (λ (x : Replayed). x.account.high) same,
      ap (λ (x : Replayed). x.account.low) same,
      ap (λ (x : Replayed). x.account.active) same,
    )
