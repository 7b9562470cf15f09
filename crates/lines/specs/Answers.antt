-- Lines answered one after the other, where what is said of a line may depend on a state that each line changes. The listing is the case
-- without: what it says of a line is `always` so. Assumes nothing.
use Rattle.std.specs.Prelude.{ℕ, ◌+◌, List, [], ◌∷◌, ◌++◌}
use Rattle.lines.specs.Lines.{Reply, reply_line, lines_of}

-- a line served: what is said of it, and the state after it
pub record Served (S : Type 0) : Type 0 where
  pub reply : Reply
  pub state : S

-- what serves a line in a state
abbrev pub Serving : Type 0 → Type 0
Serving S = S → List ℕ → Served S

-- the replies to lines from a state on, of which the first has a number
unfoldable pub replies_from : {S : Type 0} → Serving S → S → ℕ → List (List ℕ) → List ℕ
replies_from says s number [] = []
replies_from says s number (line ∷ lines) =
    reply_line number (says s line).reply ++ replies_from says (says s line).state (number + 1) lines

-- what is said of lines from a state on, one after the other
unfoldable pub said_from : {S : Type 0} → Serving S → S → List (List ℕ) → List Reply
said_from says s [] = []
said_from says s (line ∷ lines) = (says s line).reply ∷ said_from says (says s line).state lines

-- and as replies to lines, of which the first has a number
unfoldable pub numbered_from : ℕ → List Reply → List ℕ
numbered_from number [] = []
numbered_from number (said ∷ later) = reply_line number said ++ numbered_from (number + 1) later

-- the state after lines
unfoldable pub state_from : {S : Type 0} → Serving S → S → List (List ℕ) → S
state_from says s [] = s
state_from says s (line ∷ lines) = state_from says (says s line).state lines

-- the output for an input from a state on: lines are numbered from 1
unfoldable pub output_from : {S : Type 0} → Serving S → S → List ℕ → List ℕ
output_from says s input = replies_from says s 1 (lines_of input)

-- what is said of a line whatever came before it: no state goes on
abbrev pub always : (List ℕ → Reply) → Serving (Unit {0})
always said s line = record { reply = said line; state = tt }
