-- Document 01, "The listing program": what the program says of a unit, which is what coding says of it in a room of twenty bytes.
-- Assumes nothing.
use Rattle.std.specs.Prelude.{ℕ, cond, List, replicate, ◌==◌}
use Rattle.replies.specs.Replies.{Outcome}
use Rattle.unit.specs.Unit.{kind_of, coding}
use Rattle.lines.specs.Lines.{Coding, Reply, coded, refused, line_said}
use Rattle.lines.specs.Automaton.{Coming}
use Rattle.lines.specs.declared.Line.{Line}

-- "then the code or `refused`, number and place"
abbrev pub reply_of : Outcome → Reply
reply_of outcome = cond (outcome.said.number == 0) (coded outcome.room) (refused outcome.said.number outcome.said.place)

-- what is said of a unit by the letter of its kind, its number and its coordinates
unfoldable pub code_said : Coding
code_said letter number coordinates = reply_of (coding (replicate 20 0) coordinates (kind_of letter) number)

-- what is said of a line
abbrev pub said : List ℕ → Reply
said = line_said code_said

-- the line that comes in, with the room that its bytes stand in; no state goes on from line to line
abbrev pub coming : Line → List ℕ → Coming (Unit {0})
coming line room = record { number = line.number; len = line.len; room = room; state = tt }
