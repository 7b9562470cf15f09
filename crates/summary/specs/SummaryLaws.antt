-- The laws of a summary: the loop over the places, and how long a summary is, so that a caller can lend room for all of it. Assumes nothing.
use Prim.Native.Nat.{ℕ, zero, suc, ◌+◌, ◌-◌, ◌*◌, ◌≤◌, ◌<◌}
use native.Mathlib.Omega.{arith}
use Rattle.std.specs.Prelude.{◌≡◌, refl, Bool, true, false, cond, eqb, length}
use Rattle.std.proofs.Math.Path.{sym, ap}
use Rattle.std.proofs.Common.{◌∙◌, length-append}
use mathlib.Core.List.{List, [], ◌++◌, append-nil, append_assoc}
use Rattle.facts.specs.Texts.{bytes}
use Rattle.room.specs.Room.{Put}
use Rattle.room.specs.RoomLaws.{put_nothing, put_then}
use Rattle.lines.specs.Lines.{decimal}
use Rattle.lines.specs.ReplyLaws.{spelling_short}
use Rattle.halves.specs.declared.Halves.{Halves}
use Rattle.halves.specs.Halves.{spelled_halves}
use Rattle.places.specs.Places.{places, is_free, active_on, code_on}
use Rattle.entitlements.specs.declared.Account.{Account}
use Rattle.replaying.specs.declared.Counts.{Counts}
use Rattle.replaying.specs.declared.Replayed.{Replayed}
use Rattle.summary.specs.Summary.{line_of, stop_line, count_lines, place_line, place_told, places_from, place_lines, account_lines, summary_of}

-- ---- the loop over the places

-- The lines of the places before i are put; with those from i on they are all
pub record Listing (high low active lent : List ℕ) (at : ℕ) (out : List ℕ) (end i : ℕ) : Type 0 where
  pub within : i ≤ places
  pub done : List ℕ
  pub whole : place_lines high low active ≡ done ++ places_from high low active (places - i) i
  pub filled : Put lent at done end out

pub listing_begin : (high low active lent : List ℕ) (at : ℕ) → Listing high low active lent at lent at 0
listing_begin high low active lent at = record { within = omega arith; done = []; whole = refl; filled = put_nothing lent at }

module _ {high low active lent : List ℕ} {at : ℕ} {out : List ℕ} {end i : ℕ} (so : Listing high low active lent at out end i) where
  -- a place further
  pub listing_step : {next : ℕ} {later : List ℕ} → i < places → Put out end (place_told high low active i) next later
      → Listing high low active lent at later next (i + 1)
  unfolding places_from
  listing_step h puts =
      let one : places - i ≡ suc (places - (i + 1)) = omega arith in
      record {
        within = omega arith;
        done = so.done ++ place_told high low active i;
        whole =
            so.whole
            ∙ ap (λ (n : ℕ). so.done ++ places_from high low active n i) one
            ∙ sym (append_assoc so.done (place_told high low active i) (places_from high low active (places - (i + 1)) (i + 1)));
        filled = put_then so.filled puts;
      }

  -- an active one
  pub listing_active : {next : ℕ} {later : List ℕ} → i < places → is_free active i ≡ false
      → Put out end (place_line i (code_on high low i)) next later → Listing high low active lent at later next (i + 1)
  listing_active h on puts = listing_step h (rw on puts)

  -- or a free one
  pub listing_free : i < places → is_free active i ≡ true → Listing high low active lent at out end (i + 1)
  listing_free h free = listing_step h (rw free (put_nothing out end))

  -- up to the last
  pub listing_end : places ≤ i → Put lent at (place_lines high low active) end out
  unfolding places_from
  listing_end h =
      let none : places - i ≡ 0 = omega arith in
      let all : place_lines high low active ≡ so.done =
      so.whole ∙ ap (λ (n : ℕ). so.done ++ places_from high low active n i) none ∙ append-nil so.done in
      rw all so.filled

-- ---- how long a summary is

-- the bytes of a line at most: `refused `, two numbers of 20 digits, a space and a line feed
abbrev pub line_most : ℕ
line_most = 50

-- and of a summary: nine lines, and one for each place
abbrev pub summary_most : ℕ
summary_most = (9 + places) * line_most

-- a name and a number
line_short : (name : List ℕ) (n : ℕ) → length (line_of name n) ≤ length name + 22
line_short name n =
    omega (
      arith,
      length-append (name ++ bytes " " ++ decimal n) (bytes "\n"),
      length-append (name ++ bytes " ") (decimal n),
      length-append name (bytes " "),
      spelling_short 20 n,
    )

-- where it stopped
stop_short : (refusal offset : ℕ) → length (stop_line refusal offset) ≤ line_most
stop_short refusal offset = pick (eqb refusal 0)
  where
    pick : (b : Bool) → length (cond b (line_of (bytes "end") offset) (line_of (bytes "refused " ++ decimal refusal) offset)) ≤ line_most
    pick true = omega (arith, line_short (bytes "end") offset)
    pick false =
        omega (
          arith,
          line_short (bytes "refused " ++ decimal refusal) offset,
          length-append (bytes "refused ") (decimal refusal),
          spelling_short 20 refusal,
        )

-- how often each answer came, six lines
counts_short : (counts : Counts) → length (count_lines counts) ≤ 6 * line_most
counts_short counts =
    let activated : List ℕ = line_of (bytes "activated") counts.activated in
    let already : List ℕ = line_of (bytes "already") counts.already in
    let cancelled : List ℕ = line_of (bytes "cancelled") counts.cancelled in
    let inactive : List ℕ = line_of (bytes "not active") counts.inactive in
    let old : List ℕ = line_of (bytes "old") counts.old in
    let full : List ℕ = line_of (bytes "full") counts.full in
    omega (
      arith,
      length-append (activated ++ already ++ cancelled ++ inactive ++ old) full,
      length-append (activated ++ already ++ cancelled ++ inactive) old,
      length-append (activated ++ already ++ cancelled) inactive,
      length-append (activated ++ already) cancelled,
      length-append activated already,
      line_short (bytes "activated") counts.activated,
      line_short (bytes "already") counts.already,
      line_short (bytes "cancelled") counts.cancelled,
      line_short (bytes "not active") counts.inactive,
      line_short (bytes "old") counts.old,
      line_short (bytes "full") counts.full,
    )

-- a place
place_short : (place : ℕ) (code : Halves) → length (place_line place code) ≤ line_most
place_short place code =
    omega (
      arith,
      length-append (decimal place ++ bytes " " ++ spelled_halves code) (bytes "\n"),
      length-append (decimal place ++ bytes " ") (spelled_halves code),
      length-append (decimal place) (bytes " "),
      spelling_short 20 place,
    )

-- n places
places_short : (high low active : List ℕ) (n i : ℕ) → length (places_from high low active n i) ≤ n * line_most
unfolding places_from
places_short high low active zero i = omega arith
places_short high low active (suc n) i = pick (active_on active i) (places_short high low active n (i + 1))
  where
    this : List ℕ
    this = place_line i (code_on high low i)

    later : List ℕ
    later = places_from high low active n (i + 1)

    pick : (b : Bool) → length later ≤ n * line_most → length (cond b this [] ++ later) ≤ suc n * line_most
    pick true h = omega (arith, h, length-append this later, place_short i (code_on high low i))
    pick false h = omega (arith, h)

-- an account
account_short : (account : Account) → length (account_lines account) ≤ (2 + places) * line_most
account_short account =
    let last : List ℕ = line_of (bytes "last") account.last in
    let total : List ℕ = line_of (bytes "total") account.total in
    let listed : List ℕ = place_lines account.high account.low account.active in
    omega (
      arith,
      length-append (last ++ total) listed,
      length-append last total,
      line_short (bytes "last") account.last,
      line_short (bytes "total") account.total,
      places_short account.high account.low account.active places 0,
    )

-- a summary
pub summary_short : (r : Replayed) → length (summary_of r) ≤ summary_most
unfolding summary_of
summary_short r =
    let stop : List ℕ = stop_line r.refusal r.offset in
    omega (
      arith,
      length-append (stop ++ count_lines r.counts) (account_lines r.account),
      length-append stop (count_lines r.counts),
      stop_short r.refusal r.offset,
      counts_short r.counts,
      account_short r.account,
    )
