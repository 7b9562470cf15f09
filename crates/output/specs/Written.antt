-- Replies that are written whole: where an output has room for a reply to each byte of a read, it starts with all of them. Assumes nothing.
use Rattle.std.specs.Prelude.{ℕ, ◌*◌, ◌≤◌, ◌≡◌, List, length, take}
use Rattle.std.proofs.Common.{arith}
use Rattle.room.specs.Room.{Put}
use Rattle.room.specs.RoomLaws.{put_within, put_whole}
use Rattle.lines.specs.Answers.{Serving}
use Rattle.lines.specs.Automaton.{Coming, ended, last}
use Rattle.lines.specs.ReplyLaws.{reply_most, Short, ended_short, last_short}

-- an output that starts with a text: its first `count` bytes are the text
pub record Starts (out : List ℕ) (count : ℕ) (text : List ℕ) : Type 0 where
  pub within : count ≤ length out
  pub first : take count out ≡ text

-- where a text that was put fits
pub starts_put : {lent text : List ℕ} {put : ℕ} {out : List ℕ} → Put lent 0 text put out → length text ≤ length lent → Starts out put text
starts_put p h = record { within = put_within p (omega arith); first = (put_whole p h).1 }

-- where short things are said in every state: none of a read's replies is lost, and likewise at the end of the input
module _ {S : Type 0} (says : Serving S) (short : (s : S) (line : List ℕ) → Short (says s line).reply) (line : Coming S) where
  pub ended_written : (bytes : List ℕ) {lent : List ℕ} {put : ℕ} {out : List ℕ} → length bytes * reply_most ≤ length lent
      → Put lent 0 (ended says line bytes) put out → Starts out put (ended says line bytes)
  ended_written bytes h p = starts_put p (omega (arith, h, ended_short says short line bytes))

  pub last_written : {lent : List ℕ} {put : ℕ} {out : List ℕ} → reply_most ≤ length lent → Put lent 0 (last says line) put out
      → Starts out put (last says line)
  last_written h p = starts_put p (omega (arith, h, last_short says short line))
