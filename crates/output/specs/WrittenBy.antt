-- What is written whole, as specs/Written.antt says it of replies, of whatever is written for a line: where an output has room for that for
-- each byte of a read, it starts with all of it. Assumes nothing.
use Rattle.std.specs.Prelude.{ℕ, ◌*◌, ◌≤◌, List, length}
use Rattle.std.proofs.Common.{arith}
use Rattle.room.specs.Room.{Put}
use Rattle.lines.specs.Answers.{Serving}
use Rattle.lines.specs.Automaton.{Coming}
use Rattle.lines.specs.Putting.{Putting, ended_by, last_by}
use Rattle.lines.specs.PuttingLaws.{Within, ended_within, last_within}
use Rattle.output.specs.Written.{Starts, starts_put}

-- where at most so many bytes are written for a line: nothing of a read's is lost, and likewise at the end of the input
module _ {S : Type 0} {most : ℕ} {put : Putting} {says : Serving S} (within : Within most put says) (line : Coming S) where
  pub ended_starts : (bytes : List ℕ) {lent : List ℕ} {end : ℕ} {out : List ℕ} → length bytes * most ≤ length lent
      → Put lent 0 (ended_by put says line bytes) end out → Starts out end (ended_by put says line bytes)
  ended_starts bytes h p = starts_put p (omega (arith, h, ended_within within line bytes))

  pub last_starts : {lent : List ℕ} {end : ℕ} {out : List ℕ} → most ≤ length lent → Put lent 0 (last_by put says line) end out
      → Starts out end (last_by put says line)
  last_starts h p = starts_put p (omega (arith, h, last_within within line))
