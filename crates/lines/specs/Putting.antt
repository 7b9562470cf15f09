-- Lines answered one after the other, and what is written for them: what is written for a line, by its number and what is said of it, is a
-- parameter, `put`. Where it is the line's reply, these are the definitions of specs/Answers.antt and specs/Automaton.antt, which have names
-- without `by`. Assumes nothing.
use Rattle.std.specs.Prelude.{ℕ, ◌+◌, cond, List, [], ◌∷◌, ◌++◌, eqb}
use Prim.Native.Char.{code}
use Rattle.lines.specs.Lines.{Reply, lines_of}
use Rattle.lines.specs.Answers.{Serving}
use Rattle.lines.specs.Automaton.{Coming, more, answer, next, after}

-- what is written for a line, by its number and what is said of it
abbrev pub Putting : Type 0
Putting = ℕ → Reply → List ℕ

-- ---- for the lines of a text

-- what is written for lines from a state on, of which the first has a number
unfoldable pub replies_by : {S : Type 0} → Putting → Serving S → S → ℕ → List (List ℕ) → List ℕ
replies_by put says s number [] = []
replies_by put says s number (line ∷ lines) =
    put number (says s line).reply ++ replies_by put says (says s line).state (number + 1) lines

-- what is written for lines of which so much is said, the first of which has a number
unfoldable pub numbered_by : Putting → ℕ → List Reply → List ℕ
numbered_by put number [] = []
numbered_by put number (said ∷ later) = put number said ++ numbered_by put (number + 1) later

-- what is written for an input from a state on: lines are numbered from 1
unfoldable pub output_by : {S : Type 0} → Putting → Serving S → S → List ℕ → List ℕ
output_by put says s input = replies_by put says s 1 (lines_of input)

-- ---- for lines that come in

-- what is written for the line that comes in, where it ends here
abbrev pub reply_by : {S : Type 0} → Putting → Serving S → Coming S → List ℕ
reply_by put says line = put line.number (answer says line).reply

-- what is written for the lines that end in bytes
unfoldable pub ended_by : {S : Type 0} → Putting → Serving S → Coming S → List ℕ → List ℕ
ended_by put says line [] = []
ended_by put says line (b ∷ bytes) =
    cond (eqb b (code "\n")) (reply_by put says line ++ ended_by put says (next says line) bytes) (ended_by put says (more b line) bytes)

-- "A last line needs no line feed, and none starts after a line feed that ends the input": what is written at the end of the input
unfoldable pub last_by : {S : Type 0} → Putting → Serving S → Coming S → List ℕ
last_by put says line = cond (eqb line.len 0) [] (reply_by put says line)

-- what is written for an input that comes in several reads
unfoldable pub listed_by : {S : Type 0} → Putting → Serving S → Coming S → List (List ℕ) → List ℕ
listed_by put says line [] = last_by put says line
listed_by put says line (bytes ∷ reads) = ended_by put says line bytes ++ listed_by put says (after says line bytes) reads
