-- The text of a replay, a line each: where it stopped, how often each answer came, the last number and the total, and the code of each
-- active place (document 02, request 6: "the account and count of each answer", "tells the offset"). Assumes nothing.
use Rattle.std.specs.Prelude.{ℕ, zero, suc, ◌+◌, cond, List, [], ◌++◌, eqb}
use Rattle.facts.specs.Texts.{bytes}
use Rattle.lines.specs.Lines.{decimal}
use Rattle.halves.specs.declared.Halves.{Halves}
use Rattle.halves.specs.Halves.{spelled_halves}
use Rattle.places.specs.Places.{places, active_on, code_on}
use Rattle.entitlements.specs.declared.Account.{Account}
use Rattle.replaying.specs.declared.Counts.{Counts}
use Rattle.replaying.specs.declared.Replayed.{Replayed}

-- a name, a space, a number and a line feed
abbrev pub line_of : List ℕ → ℕ → List ℕ
line_of name n = name ++ bytes " " ++ decimal n ++ bytes "\n"

-- where it stopped: `end` and the offset, or `refused`, the number of the refusal and the offset
abbrev pub stop_line : ℕ → ℕ → List ℕ
stop_line refusal offset = cond (eqb refusal 0) (line_of (bytes "end") offset) (line_of (bytes "refused " ++ decimal refusal) offset)

-- how often each answer came, `full` for 43
abbrev pub count_lines : Counts → List ℕ
count_lines counts =
    line_of (bytes "activated") counts.activated
    ++ line_of (bytes "already") counts.already
    ++ line_of (bytes "cancelled") counts.cancelled
    ++ line_of (bytes "not active") counts.inactive
    ++ line_of (bytes "old") counts.old
    ++ line_of (bytes "full") counts.full

-- a place, a space, the twenty letters of a code and a line feed
abbrev pub place_line : ℕ → Halves → List ℕ
place_line place code = decimal place ++ bytes " " ++ spelled_halves code ++ bytes "\n"

-- the line of a place where it is active, with the code that it holds, and none where it is free
abbrev pub place_told : List ℕ → List ℕ → List ℕ → ℕ → List ℕ
place_told high low active i = cond (active_on active i) (place_line i (code_on high low i)) []

-- the lines of n places from place i on, lowest first
unfoldable pub places_from : List ℕ → List ℕ → List ℕ → ℕ → ℕ → List ℕ
places_from high low active zero i = []
places_from high low active (suc n) i = place_told high low active i ++ places_from high low active n (i + 1)

-- of all places
abbrev pub place_lines : List ℕ → List ℕ → List ℕ → List ℕ
place_lines high low active = places_from high low active places 0

-- the last number, the total and the active places
abbrev pub account_lines : Account → List ℕ
account_lines account =
    line_of (bytes "last") account.last
    ++ line_of (bytes "total") account.total
    ++ place_lines account.high account.low account.active

-- the whole text
unfoldable pub summary_of : Replayed → List ℕ
summary_of r = stop_line r.refusal r.offset ++ count_lines r.counts ++ account_lines r.account
