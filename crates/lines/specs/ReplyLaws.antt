-- How long replies are, so that a caller can lend room for all of them. Assumes nothing.
use Rattle.std.specs.Prelude.{ℕ, zero, suc, ◌+◌, ◌*◌, ◌/◌, ◌%◌, ◌≤◌, ◌≡◌, Bool, cond, take, ltb}
use native.Mathlib.Omega.{arith}
use Rattle.std.proofs.Math.Path.{refl}
use Rattle.std.proofs.Math.Bool.{true, false}
use mathlib.Core.List.{List, [], ◌∷◌, ◌++◌}
use Rattle.std.proofs.Math.ListN.{length, length-append}
use Rattle.std.proofs.Math.Dec.{eqb}
use Rattle.facts.specs.Texts.{bytes}
use Rattle.lines.specs.Lines.{Form, unit, not_of_this_form, form, form_said, Coding, Reply, refused, saying, spelling, decimal, longest, line_said, reply_line}
use Rattle.lines.specs.Answers.{Serving}
use Rattle.lines.specs.Automaton.{Coming, more, answer, reply, next, ended, last}

-- a number of so many digits at most
pub spelling_short : (count n : ℕ) → length (spelling count n) ≤ count
unfolding spelling
spelling_short zero n = omega arith
spelling_short (suc count) n = pick (spelling_short count (n / 10)) (ltb n 10)
  where
    digit : List ℕ
    digit = (48 + n % 10) ∷ []

    pick : length (spelling count (n / 10)) ≤ count → (e : Bool) → length (cond e ((48 + n) ∷ []) (spelling count (n / 10) ++ digit)) ≤ suc count
    pick h true = omega arith
    pick h false = omega (arith, length-append (spelling count (n / 10)) digit, h)

-- the bytes of a reply at most: its line's number of 20 digits, a space, 49 bytes and a line feed
abbrev pub reply_most : ℕ
reply_most = 71

-- what is said, where it has at most 49 bytes, as a refusal has
abbrev pub Short : Reply → Type 0
Short said = length (saying said) ≤ 49

-- a refusal
pub refusal_short : (number place : ℕ) → Short (refused number place)
refusal_short number place =
    omega (
      arith,
      length-append (bytes "refused " ++ decimal number ++ bytes " ") (decimal place),
      length-append (bytes "refused " ++ decimal number) (bytes " "),
      length-append (bytes "refused ") (decimal number),
      spelling_short 20 number,
      spelling_short 20 place,
    )

-- what is said of a line, where what coding says is short
pub line_short : (coding : Coding) → ((kind number : ℕ) (coordinates : List ℕ) → Short (coding kind number coordinates)) → (line : List ℕ)
    → Short (line_said coding line)
unfolding line_said
line_short coding short line = pick (ltb longest (length line)) (form line)
  where
    pick : (e : Bool) (f : Form) → Short (cond e (refused 10 0) (form_said coding f))
    pick true f = refusal_short 10 0
    pick false (unit kind number coordinates) = short kind number coordinates
    pick false not_of_this_form = refusal_short 9 0

-- the replies to lines of which short things are said in every state
module _ {S : Type 0} (says : Serving S) (short : (s : S) (line : List ℕ) → Short (says s line).reply) where
  reply_short : (line : Coming S) → length (reply says line) ≤ reply_most
  unfolding reply_line
  reply_short line =
      let this : Reply = (answer says line).reply in
      omega (
        arith,
        length-append (decimal line.number ++ bytes " " ++ saying this) (bytes "\n"),
        length-append (decimal line.number ++ bytes " ") (saying this),
        length-append (decimal line.number) (bytes " "),
        spelling_short 20 line.number,
        short line.state (take line.len line.room),
      )

  -- a read's are at most so long for each of its bytes
  abbrev EndedShort : Coming S → List ℕ → Type 0
  EndedShort line bytes = length (ended says line bytes) ≤ length bytes * reply_most

  pub ended_short : (line : Coming S) (bytes : List ℕ) → length (ended says line bytes) ≤ length bytes * reply_most
  unfolding ended
  ended_short line [] = omega arith
  ended_short line (b ∷ bytes) = pick (ended_short (next says line) bytes) (ended_short (more b line) bytes) (eqb b 10) refl
    where
      pick : EndedShort (next says line) bytes → EndedShort (more b line) bytes → (e : Bool) → eqb b 10 ≡ e → EndedShort line (b ∷ bytes)
      pick fed grew true e = rw e (omega (arith, length-append (reply says line) (ended says (next says line) bytes), reply_short line, fed))
      pick fed grew false e = rw e (omega (arith, grew))

  pub last_short : (line : Coming S) → length (last says line) ≤ reply_most
  unfolding last
  last_short line = pick (eqb line.len 0)
    where
      pick : (e : Bool) → length (cond e [] (reply says line)) ≤ reply_most
      pick true = omega arith
      pick false = reply_short line
