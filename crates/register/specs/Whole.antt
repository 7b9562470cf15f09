-- What a run of the listing writes, whatever its reads: the output that document 01 gives the whole input. Assumes nothing.
use Rattle.std.specs.Prelude.{◌≡◌, ℕ, ◌+◌, ◌^◌, ◌<◌, ◌≤◌, Bool, true, false, cond, List, length, replicate, ◌==◌}
use Rattle.std.proofs.Common.{arith, ◌∙◌}
use Rattle.replies.specs.Replies.{Outcome}
use Rattle.unit.specs.Unit.{kind_of, coding}
use Rattle.unit.specs.FrameLaws.{coding_fits}
use Rattle.lines.specs.Lines.{coded, refused, longest, output_of}
use Rattle.lines.specs.LinesLaws.{said_first}
use Rattle.lines.specs.Answers.{always}
use Rattle.lines.specs.AnswersLaws.{output_always}
use Rattle.lines.specs.Automaton.{first, together, listed}
use Rattle.lines.specs.AutomatonLaws.{listed_output}
use Rattle.lines.specs.ReplyLaws.{Short, refusal_short, line_short}
use Rattle.register.specs.Said.{reply_of, code_said, said}

-- However reads cut the input, the replies to them are the output for the whole input, lines numbered from 1
pub whole : (room : List ℕ) (reads : List (List ℕ)) → longest < length room → 1 + length (together reads) < 2 ^ 64
    → listed (always said) (first room tt) reads ≡ output_of said (together reads)
whole room reads h few = listed_output (always said) room tt (said_first code_said (length room) h) reads few ∙ output_always said (together reads)

-- What is said of a unit is a code of twenty bytes, or a refusal
code_short : (letter number : ℕ) (coordinates : List ℕ) → Short (code_said letter number coordinates)
unfolding code_said
code_short letter number coordinates =
    at (coding (replicate 20 0) coordinates (kind_of letter) number) (coding_fits (replicate 20 0) coordinates (kind_of letter) number (omega arith))
  where
    at : (outcome : Outcome) → length outcome.room ≤ 20 → Short (reply_of outcome)
    at outcome h = pick (outcome.said.number == 0)
      where
        pick : (b : Bool) → Short (cond b (coded outcome.room) (refused outcome.said.number outcome.said.place))
        pick true = omega (arith, h)
        pick false = refusal_short outcome.said.number outcome.said.place

-- and so is what is said of a line
pub said_short : (line : List ℕ) → Short (said line)
said_short = line_short code_said code_short
