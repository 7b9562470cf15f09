-- No second answer meets the contracts of `register`: the line that comes in, the room and the output have no choice. Assumes nothing.
use Rattle.std.specs.Prelude.{◌≡◌, ℕ, List}
use Rattle.std.proofs.Common.{sym, ap, ◌∙◌}
use Rattle.room.specs.Room.{Put}
use Rattle.room.specs.RoomLaws.{put_only}
use Rattle.lines.specs.Automaton.{Coming}
use Rattle.lines.specs.declared.Line.{Line}
use Rattle.register.specs.declared.Listed.{Listed}
use Rattle.register.specs.Said.{coming}

abbrev listed_by : ℕ → ℕ → ℕ → Listed
listed_by number len put = record { line = record { number = number; len = len }; put = put }

-- Two answers, rooms and outputs that meet the promises of `reply_all` are the same
pub listed_once : (comes : Coming (Unit {0})) (lent text : List ℕ) (a b : Listed) (room other out later : List ℕ) → coming a.line room ≡ comes
    → coming b.line other ≡ comes → Put lent 0 text a.put out → Put lent 0 text b.put later → (a ≡ b) × (room ≡ other) × (out ≡ later)
listed_once comes lent text a b room other out later e k p q =
    let same = e ∙ sym k in
    let put = put_only p q in
    let line : a.line ≡ b.line = ap (λ (l : Coming (Unit {0})). (listed_by l.number l.len 0).line) same in (
      ap (λ (l : Line). listed_by l.number l.len a.put) line ∙ ap (listed_by b.line.number b.line.len) put.0,
      ap (λ (l : Coming (Unit {0})). l.room) same,
      put.1,
    )

-- Two answers and outputs that meet the promise of `reply_last` are the same
pub last_once : (lent text : List ℕ) (a b : ℕ) (out later : List ℕ) → Put lent 0 text a out → Put lent 0 text b later → (a ≡ b) × (out ≡ later)
last_once lent text a b out later p q = put_only p q
