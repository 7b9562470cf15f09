-- No second answer meets the contract of `put_summary`: the position after the summary and the output have no choice. Assumes nothing.
use Rattle.std.specs.Prelude.{ℕ, ◌≡◌, List}
use Rattle.room.specs.Room.{Put}
use Rattle.room.specs.RoomLaws.{put_only}
use Rattle.replaying.specs.declared.Replayed.{Replayed}
use Rattle.summary.specs.Summary.{summary_of}

-- Two positions and outputs that meet the promise are the same
pub summary_once : (replayed : Replayed) (lent : List ℕ) (a b : ℕ) (out later : List ℕ) → Put lent 0 (summary_of replayed) a out
    → Put lent 0 (summary_of replayed) b later → (a ≡ b) × (out ≡ later)
summary_once replayed lent a b out later p q = put_only p q
