-- No second answer meets the contracts of `recording`: the line that comes in, the room, the output and what is told have no choice.
-- Assumes nothing.
use Rattle.std.specs.Prelude.{◌≡◌, ℕ, List}
use Rattle.std.proofs.Common.{ap, ap₂, sym, ◌∙◌}
use Rattle.room.specs.Room.{Put}
use Rattle.room.specs.RoomLaws.{put_only}
use Rattle.lines.specs.Automaton.{Coming}
use Rattle.recording.specs.declared.Ends.{Ends}
use Rattle.recording.specs.declared.Recorded.{Recorded}
use Rattle.recording.specs.Recorded.{coming}

-- the answer of `record_last` by its counts
abbrev ends_by : ℕ → ℕ → Ends
ends_by put told = record { put = put; told = told }

-- Two answers and outputs that meet the promises of `record_last` are the same
pub last_once : (lent page spare told : List ℕ) (a b : Ends) (out later out' later' : List ℕ) → Put lent 0 page a.put out → Put lent 0 page b.put later
    → Put spare 0 told a.told out' → Put spare 0 told b.told later' → (a ≡ b) × (out ≡ later) × (out' ≡ later')
last_once lent page spare told a b out later out' later' p q p' q' =
    let put = put_only p q in
    let tells = put_only p' q' in
    (ap₂ ends_by put.0 tells.0, put.1, tells.1)

-- the answer of `record_all` by the line that comes in and its counts
abbrev recorded_by : Coming (Unit {0}) → Ends → Recorded
recorded_by comes ends = record { line = record { number = comes.number; len = comes.len }; put = ends.put; told = ends.told }

-- Two answers, rooms and outputs that meet the promises of `record_all` are the same
pub recorded_once : (comes : Coming (Unit {0})) (lent page spare told : List ℕ) (a b : Recorded) (room other out later out' later' : List ℕ)
    → coming a.line room ≡ comes → coming b.line other ≡ comes → Put lent 0 page a.put out → Put lent 0 page b.put later
    → Put spare 0 told a.told out' → Put spare 0 told b.told later' → (a ≡ b) × (room ≡ other) × (out ≡ later) × (out' ≡ later')
recorded_once comes lent page spare told a b room other out later out' later' e k p q p' q' =
    let same = e ∙ sym k in
    let ends = last_once lent page spare told (ends_by a.put a.told) (ends_by b.put b.told) out later out' later' p q p' q' in
    (ap₂ recorded_by same ends.0, ap (λ (l : Coming (Unit {0})). l.room) same, ends.1, ends.2)
