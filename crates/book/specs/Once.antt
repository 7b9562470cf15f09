-- No second answer meets the contract of `reply_all`: the line that comes in, the account, the room and the output have no choice.
-- `reply_last` promises a `Put` alone, for which it is `put_only` of room/specs/RoomLaws.antt. Assumes nothing.
use Rattle.std.specs.Prelude.{◌≡◌, ℕ, List}
use Rattle.std.proofs.Common.{ap, ap₂, sym, ◌∙◌}
use Rattle.room.specs.Room.{Put}
use Rattle.room.specs.RoomLaws.{put_only}
use Rattle.entitlements.specs.declared.Account.{Account}
use Rattle.lines.specs.Automaton.{Coming}
use Rattle.book.specs.declared.Listed.{Listed}
use Rattle.book.specs.Said.{coming}

-- the answer by the line that comes in and the count of bytes that were put
abbrev listed_by : Coming Account → ℕ → Listed
listed_by comes put = record { line = record { number = comes.number; len = comes.len }; account = comes.state; put = put }

-- Two answers, rooms and outputs that meet the promises of `reply_all` are the same
pub listed_once : (comes : Coming Account) (lent text : List ℕ) (a b : Listed) (room other out later : List ℕ) → coming a.line a.account room ≡ comes
    → coming b.line b.account other ≡ comes → Put lent 0 text a.put out → Put lent 0 text b.put later
    → (a ≡ b) × (room ≡ other) × (out ≡ later)
listed_once comes lent text a b room other out later e k p q =
    let same = e ∙ sym k in
    let put = put_only p q in
    (ap₂ listed_by same put.0, ap (λ (l : Coming Account). l.room) same, put.1)
