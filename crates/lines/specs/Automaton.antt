-- Document 01, "The listing program": the line automaton. Standard input comes in bytes; a line feed ends a line, and a line's first
-- bytes stand in a room while it comes in. What answers a line is a parameter, and a state goes on from line to line: the listing has
-- none, and says `lineSaid` of specs/Lines.antt.
-- Assumes nothing.
use Rattle.std.specs.Prelude.{ℕ, ◌+◌, ◌%◌, ◌^◌, cond, List, [], ◌∷◌, ◌++◌, length, take, set, ltb, eqb}
use Prim.Native.Char.{code}
use Rattle.lines.specs.Lines.{reply_line}
use Rattle.lines.specs.Answers.{Served, Serving}

-- the line that comes in: its number, how many of its bytes stand in the room, the room, and the state that the line finds
pub record Coming (S : Type 0) : Type 0 where
  pub number : ℕ
  pub len : ℕ
  pub room : List ℕ
  pub state : S

-- "line number from 1": before any byte
abbrev pub first : {S : Type 0} → List ℕ → S → Coming S
first room s = record { number = 1; len = 0; room = room; state = s }

-- how many bytes stand in a room of `size` bytes after one byte more: "the rest of that line is passed over"
unfoldable pub grown : ℕ → ℕ → ℕ
grown size len = cond (ltb len size) (len + 1) len

-- after any byte but a line feed
abbrev pub more : {S : Type 0} → ℕ → Coming S → Coming S
more b line =
    record { number = line.number; len = grown (length line.room) line.len; room = set line.room line.len b; state = line.state }

-- the answer to the line that comes in, where it ends here
abbrev pub answer : {S : Type 0} → Serving S → Coming S → Served S
answer says line = says line.state (take line.len line.room)

-- the reply to it
abbrev pub reply : {S : Type 0} → Serving S → Coming S → List ℕ
reply says line = reply_line line.number (answer says line).reply

-- after a line feed: the next line. After 2^64 - 1, as a machine counts, comes 0
abbrev pub next : {S : Type 0} → Serving S → Coming S → Coming S
next says line = record { number = (line.number + 1) % 2 ^ 64; len = 0; room = line.room; state = (answer says line).state }

-- after bytes
unfoldable pub after : {S : Type 0} → Serving S → Coming S → List ℕ → Coming S
after says line [] = line
after says line (b ∷ bytes) = cond (eqb b (code "\n")) (after says (next says line) bytes) (after says (more b line) bytes)

-- the replies to the lines that end in bytes
unfoldable pub ended : {S : Type 0} → Serving S → Coming S → List ℕ → List ℕ
ended says line [] = []
ended says line (b ∷ bytes) =
    cond (eqb b (code "\n")) (reply says line ++ ended says (next says line) bytes) (ended says (more b line) bytes)

-- "A last line needs no line feed, and none starts after a line feed that ends the input": the reply at the end of the input
unfoldable pub last : {S : Type 0} → Serving S → Coming S → List ℕ
last says line = cond (eqb line.len 0) [] (reply says line)

-- and the state there
unfoldable pub final : {S : Type 0} → Serving S → Coming S → S
final says line = cond (eqb line.len 0) line.state (answer says line).state

-- the bytes of several reads, one after the other
unfoldable pub together : List (List ℕ) → List ℕ
together [] = []
together (bytes ∷ reads) = bytes ++ together reads

-- the replies to an input that comes in several reads
unfoldable pub listed : {S : Type 0} → Serving S → Coming S → List (List ℕ) → List ℕ
listed says line [] = last says line
listed says line (bytes ∷ reads) = ended says line bytes ++ listed says (after says line bytes) reads
