-- A message to an account that is lent as three arrays and two numbers, and the replay of a page into one (document 02, requests 3, 5
-- and 6, for callers who cannot hand an account over by value). Assumes nothing.
use Rattle.std.specs.Prelude.{ℕ, Bool, cond, ◌&&◌, List, [], eqb, length}
use Rattle.places.specs.Places.{places}
use Rattle.entitlements.specs.declared.Kind.{Kind}
use Rattle.entitlements.specs.Entitlements.{account_of, Answering, activated, already, cancelled, not_active, old, full, refusal, Done, done, message}
use Rattle.replaying.specs.declared.Counts.{Counts}
use Rattle.replaying.specs.declared.Replayed.{Replayed}
use Rattle.replaying.specs.Replay.{counts_of, replayed_by, replayed}
use Rattle.lending.specs.declared.Lent.{Lent}
use Rattle.lending.specs.declared.LentReplay.{LentReplay}

-- Whether what is lent has 256 places
abbrev pub is_account : List ℕ → List ℕ → List ℕ → Bool
is_account high low active = eqb (length high) places && (eqb (length low) places && eqb (length active) places)

-- ---- A message

-- 40 for arrays that are no account, and all is as it was lent
unfoldable pub lending : Kind → List ℕ → List ℕ → List ℕ → ℕ → ℕ → List ℕ → ℕ → Done
lending kind high low active last total text number =
    cond (is_account high low active) (message kind (account_of high low active last total) text number)
    (done (refusal 40) (account_of high low active last total))

-- The answer by its number: 1 to 5 by the words, and a refusal by its own
abbrev pub answering : ℕ → Answering
answering n =
    cond (eqb n 1) activated
    (cond (eqb n 2) already
    (cond (eqb n 3) cancelled (cond (eqb n 4) not_active (cond (eqb n 5) old (cond (eqb n 43) full (refusal n))))))

-- What a function answers, and leaves in the arrays
abbrev pub lends : Lent → List ℕ → List ℕ → List ℕ → Done
lends r high low active = done (answering r.answer) (account_of high low active r.last r.total)

-- ---- Replay of a page

-- "from an empty account": what the arrays held is overwritten; 40, no answers and all as it was lent for arrays that are no account
unfoldable pub replayed_into : List ℕ → List ℕ → List ℕ → List ℕ → Replayed
replayed_into high low active page =
    cond (is_account high low active) (replayed page) (replayed_by 40 0 (counts_of []) (account_of high low active 0 0))

-- How often each answer came
abbrev pub counts_in : LentReplay → Counts
counts_in r = record {
  activated = r.activated;
  already = r.already;
  cancelled = r.cancelled;
  inactive = r.inactive;
  old = r.old;
  full = r.full;
}

-- What a function answers, and leaves in the arrays
abbrev pub replays : LentReplay → List ℕ → List ℕ → List ℕ → Replayed
replays r high low active =
    replayed_by r.refusal r.offset (counts_in r) (account_of high low active r.last r.total)
