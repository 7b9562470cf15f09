-- The laws of what is written for lines, whatever is written for a line: however reads cut an input, what the automaton writes is what is
-- written for the lines of the whole input; how long it is, by the most bytes for a line; and where that is the line's reply, it is the
-- output of specs/Answers.antt and specs/Automaton.antt. Assumes nothing.
use Prim.Native.Nat.{ℕ, ◌+◌, ◌*◌, ◌%◌, ◌^◌, ◌≤◌, ◌<◌}
use Rattle.std.proofs.Common.{mod-eq_of_lt, arith, subst, ◌∙◌, length-set, length-append, eq-eqb, ne_eqb, eqb-true}
use Rattle.std.specs.Prelude.{◌≡◌, Bool, cond, length, take}
use Rattle.std.proofs.Math.Path.{refl, sym, ap}
use Rattle.std.proofs.Math.Bool.{true, false}
use mathlib.Core.List.{List, [], ◌∷◌, ◌++◌, append-nil, append_assoc}
use Rattle.std.proofs.Math.Dec.{eqb}
use Rattle.facts.specs.Texts.{bytes as letters}
use Rattle.lines.specs.Lines.{Reply, saying, decimal, cut, without_empty_last, lines_of, reply_line}
use Rattle.lines.specs.Answers.{Served, Serving, replies_from, said_from, output_from}
use Rattle.lines.specs.AnswersLaws.{ByFirst}
use Rattle.lines.specs.Automaton.{Coming, first, more, answer, reply, next, after, ended, last, together, listed}
use Rattle.lines.specs.AutomatonLaws.{Stands, stands_none, stands_more, joined, joined_first, joined_longer, joined_cut, lines_cut, answer_stands, after_append}
use Rattle.lines.specs.ReplyLaws.{spelling_short, reply_most, Short}
use Rattle.lines.specs.Putting.{Putting, replies_by, numbered_by, output_by, reply_by, ended_by, last_by, listed_by}

-- ---- line by line

-- what is written for lines is written for what is said of them, line by line
module _ {S : Type 0} (put : Putting) (says : Serving S) where
  replies_numbered : (s : S) (number : ℕ) (lines : List (List ℕ))
      → replies_by put says s number lines ≡ numbered_by put number (said_from says s lines)
  unfolding replies_by said_from numbered_by
  replies_numbered s number [] = refl
  replies_numbered s number (line ∷ lines) =
      ap (λ (t : List ℕ). put number (says s line).reply ++ t) (replies_numbered (says s line).state (number + 1) lines)

  pub output_numbered : (s : S) (input : List ℕ) → output_by put says s input ≡ numbered_by put 1 (said_from says s (lines_of input))
  unfolding output_by
  output_numbered s input = replies_numbered s 1 (lines_of input)

-- ---- one byte, a line feed or another; the end of the input, in a line that has not begun or in one that has

module _ {S : Type 0} (says : Serving S) (line : Coming S) where
  pub byte_feed : (b : ℕ) → b ≡ 10
      → (after says line (b ∷ []) ≡ next says line) × ((put : Putting) → ended_by put says line (b ∷ []) ≡ reply_by put says line)
  unfolding after ended_by
  byte_feed b e = rw (eq-eqb b 10 e) (refl, λ (put : Putting). append-nil (reply_by put says line))

  pub byte_more : (b : ℕ) → (b ≡ 10 → ⊥)
      → (after says line (b ∷ []) ≡ more b line) × ((put : Putting) → ended_by put says line (b ∷ []) ≡ [])
  unfolding after ended_by
  byte_more b n = rw (ne_eqb b 10 n) (refl, λ (put : Putting). refl)

  pub last_none : line.len ≡ 0 → (put : Putting) → last_by put says line ≡ []
  unfolding last_by
  last_none e put = rw (eq-eqb line.len 0 e)

  pub last_some : (line.len ≡ 0 → ⊥) → (put : Putting) → last_by put says line ≡ reply_by put says line
  unfolding last_by
  last_some n put = rw (ne_eqb line.len 0 n)

-- ---- the whole that is written

module _ {S : Type 0} (says : Serving S) where
  module _ (put : Putting) where
    -- from a line on that has begun with a text, what is written is what is written for the lines
    abbrev Replied : Coming S → List ℕ → List ℕ → Type 0
    Replied line text input =
        ended_by put says line input ++ last_by put says (after says line input)
        ≡ replies_by put says line.state line.number (without_empty_last (joined text (cut 10 input)))

    -- where the input ends
    replied_end : (line : Coming S) (text : List ℕ) → ByFirst says (length line.room) → Stands line text → Replied line text []
    unfolding ended_by after cut replies_by
    replied_end line [] by so =
        let none : line.len ≡ 0 = omega (arith, so.len) in
        rw (joined_first [] [] []) (last_none says line none put)
    replied_end line (b ∷ text) by so =
        let some : line.len ≡ 0 → ⊥ = λ (e : line.len ≡ 0). absurd (omega (arith, so.len, by.some)) in
        let here = answer_stands says line (b ∷ text) by so in
        rw (joined_first (b ∷ text) [] [], append-nil text)
        (last_some says line some put
        ∙ ap (λ (a : Served S). put line.number a.reply) here
        ∙ sym (append-nil (put line.number (says line.state (b ∷ text)).reply)))

    -- where a line feed comes
    replied_feed : (line : Coming S) (text input : List ℕ) (number : (line.number + 1) % 2 ^ 64 ≡ line.number + 1)
        → answer says line ≡ says line.state text → Replied (next says line) [] input → Replied line text (10 ∷ input)
    unfolding ended_by after cut replies_by
    replied_feed line text input number here later =
        let rest : List (List ℕ) = without_empty_last (cut 10 input) in
        let n : ℕ = (line.number + 1) % 2 ^ 64 in
        let s : S = (answer says line).state in
        let this : List ℕ = reply_by put says line in
        append_assoc this (ended_by put says (next says line) input) (last_by put says (after says (next says line) input))
        ∙ ap (λ (t : List ℕ). this ++ t) later
        ∙ ap (λ (ps : List (List ℕ)). this ++ replies_by put says s n (without_empty_last ps)) (joined_cut input)
        ∙ ap (λ (m : ℕ). this ++ replies_by put says s m rest) number
        ∙ ap (λ (a : Served S). put line.number a.reply ++ replies_by put says a.state (line.number + 1) rest) here
        ∙ ap (λ (t : List ℕ). replies_by put says line.state line.number (t ∷ rest)) (sym (append-nil text))
        ∙ ap (replies_by put says line.state line.number) (sym (lines_cut (text ++ []) input))
        ∙ ap (λ (ps : List (List ℕ)). replies_by put says line.state line.number (without_empty_last ps)) (sym (joined_first text [] (cut 10 input)))

    -- where another byte comes
    replied_more : (line : Coming S) (text : List ℕ) (b : ℕ) (input : List ℕ) → eqb b 10 ≡ false
        → Replied (more b line) (text ++ (b ∷ [])) input → Replied line text (b ∷ input)
    unfolding ended_by after cut
    replied_more line text b input e later = rw (e, joined_longer text b (cut 10 input)) later

    pub replied : (line : Coming S) (text input : List ℕ) → ByFirst says (length line.room) → line.number + length input < 2 ^ 64
        → Stands line text
        → ended_by put says line input ++ last_by put says (after says line input)
        ≡ replies_by put says line.state line.number (without_empty_last (joined text (cut 10 input)))
    replied line text [] by few so = replied_end line text by so
    replied line text (b ∷ input) by few so =
        let size : ByFirst says (length (more b line).room) = subst (λ (k : ℕ). ByFirst says k) (sym (length-set line.room line.len b)) by in
        let one = number in
        pick
        (replied (next says line) [] input by (omega (arith, one, few)) (stands_none (next says line).number line.room (answer says line).state))
        (replied (more b line) (text ++ (b ∷ [])) input size (omega arith) (stands_more line text b so))
        (eqb b 10)
        refl
      where
        number : (line.number + 1) % 2 ^ 64 ≡ line.number + 1
        number = mod-eq_of_lt (omega (arith, few))

        pick : Replied (next says line) [] input → Replied (more b line) (text ++ (b ∷ [])) input → (e : Bool) → eqb b 10 ≡ e
            → Replied line text (b ∷ input)
        pick fed grew true e =
            subst (λ (x : ℕ). Replied line text (x ∷ input)) (sym (eqb-true b 10 e)) (replied_feed line text input number (answer_stands says line text by so) fed)
        pick fed grew false e = replied_more line text b input e grew

    -- reads one after the other are one read
    abbrev EndedJoins : Coming S → List ℕ → List ℕ → Type 0
    EndedJoins line s t = ended_by put says line (s ++ t) ≡ ended_by put says line s ++ ended_by put says (after says line s) t

    pub ended_append : (line : Coming S) (s t : List ℕ)
        → ended_by put says line (s ++ t) ≡ ended_by put says line s ++ ended_by put says (after says line s) t
    unfolding ended_by after
    ended_append line [] t = refl
    ended_append line (b ∷ s) t = pick (ended_append (next says line) s t) (ended_append (more b line) s t) (eqb b 10) refl
      where
        this : List ℕ
        this = reply_by put says line

        pick : EndedJoins (next says line) s t → EndedJoins (more b line) s t → (e : Bool) → eqb b 10 ≡ e → EndedJoins line (b ∷ s) t
        pick fed grew true e = rw e
            (ap (λ (u : List ℕ). this ++ u) fed
            ∙ sym (append_assoc this (ended_by put says (next says line) s) (ended_by put says (after says (next says line) s) t)))
        pick fed grew false e = rw e grew

    listed_together : (line : Coming S) (reads : List (List ℕ))
        → listed_by put says line reads ≡ ended_by put says line (together reads) ++ last_by put says (after says line (together reads))
    unfolding listed_by together ended_by after
    listed_together line [] = refl
    listed_together line (bytes ∷ reads) =
        let rest : List ℕ = together reads in
        let here : Coming S = after says line bytes in
        ap (λ (t : List ℕ). ended_by put says line bytes ++ t) (listed_together here reads)
        ∙ sym (append_assoc (ended_by put says line bytes) (ended_by put says here rest) (last_by put says (after says here rest)))
        ∙ ap (λ (t : List ℕ). t ++ last_by put says (after says here rest)) (sym (ended_append line bytes rest))
        ∙ ap (λ (l : Coming S). ended_by put says line (bytes ++ rest) ++ last_by put says l) (sym (after_append says line bytes rest))

  -- where the room takes the bytes that a line goes by: however reads cut an input, what is written is what is written for the whole
  module _ (room : List ℕ) (s : S) (by : ByFirst says (length room)) where
    pub listed_whole : (put : Putting) (reads : List (List ℕ)) → 1 + length (together reads) < 2 ^ 64
        → listed_by put says (first room s) reads ≡ output_by put says s (together reads)
    unfolding output_by lines_of
    listed_whole put reads few =
        listed_together put (first room s) reads
        ∙ replied put (first room s) [] (together reads) by few (stands_none 1 room s)
        ∙ ap (λ (ps : List (List ℕ)). replies_by put says s 1 (without_empty_last ps)) (joined_cut (together reads))

-- ---- how long it is

-- what is written for a line has at most so many bytes, in every state
pub record Within {S : Type 0} (most : ℕ) (put : Putting) (says : Serving S) : Type 0 where
  pub short : (number : ℕ) (s : S) (line : List ℕ) → length (put number (says s line).reply) ≤ most

module _ {S : Type 0} {most : ℕ} {put : Putting} {says : Serving S} (within : Within most put says) where
  here_within : (line : Coming S) → length (reply_by put says line) ≤ most
  here_within line = within.short line.number line.state (take line.len line.room)

  -- for a read it has at most so many for each of its bytes
  abbrev EndedWithin : Coming S → List ℕ → Type 0
  EndedWithin line bytes = length (ended_by put says line bytes) ≤ length bytes * most

  pub ended_within : (line : Coming S) (bytes : List ℕ) → length (ended_by put says line bytes) ≤ length bytes * most
  unfolding ended_by
  ended_within line [] = omega arith
  ended_within line (b ∷ bytes) = pick (ended_within (next says line) bytes) (ended_within (more b line) bytes) (eqb b 10) refl
    where
      pick : EndedWithin (next says line) bytes → EndedWithin (more b line) bytes → (e : Bool) → eqb b 10 ≡ e → EndedWithin line (b ∷ bytes)
      pick fed grew true e = rw e (omega (arith, length-append (reply_by put says line) (ended_by put says (next says line) bytes), here_within line, fed))
      pick fed grew false e = rw e (omega (arith, grew))

  pub last_within : (line : Coming S) → length (last_by put says line) ≤ most
  unfolding last_by
  last_within line = pick (eqb line.len 0)
    where
      pick : (e : Bool) → length (cond e [] (reply_by put says line)) ≤ most
      pick true = omega arith
      pick false = here_within line

-- ---- replies

-- the reply to a line of which a short thing is said
pub reply_line_short : (number : ℕ) (said : Reply) → Short said → length (reply_line number said) ≤ reply_most
unfolding reply_line
reply_line_short number said short =
    omega (
      arith,
      length-append (decimal number ++ letters " " ++ saying said) (letters "\n"),
      length-append (decimal number ++ letters " ") (saying said),
      length-append (decimal number) (letters " "),
      spelling_short 20 number,
      short,
    )

-- where short things are said in every state, replies have at most 71 bytes
pub replies_within : {S : Type 0} (says : Serving S) → ((s : S) (line : List ℕ) → Short (says s line).reply) → Within reply_most reply_line says
replies_within {S} says short =
    record { short = λ (number : ℕ) (s : S) (line : List ℕ). reply_line_short number (says s line).reply (short s line) }

-- where replies are written, that is the output
module _ {S : Type 0} (says : Serving S) where
  replies_reply : (s : S) (number : ℕ) (lines : List (List ℕ)) → replies_by reply_line says s number lines ≡ replies_from says s number lines
  unfolding replies_by replies_from
  replies_reply s number [] = refl
  replies_reply s number (line ∷ lines) =
      ap (λ (t : List ℕ). reply_line number (says s line).reply ++ t) (replies_reply (says s line).state (number + 1) lines)

  pub output_reply : (s : S) (input : List ℕ) → output_by reply_line says s input ≡ output_from says s input
  unfolding output_by output_from
  output_reply s input = replies_reply s 1 (lines_of input)

  pub ended_reply : (line : Coming S) (bytes : List ℕ) → ended_by reply_line says line bytes ≡ ended says line bytes
  unfolding ended_by ended
  ended_reply line [] = refl
  ended_reply line (b ∷ bytes) = pick (ended_reply (next says line) bytes) (ended_reply (more b line) bytes) (eqb b 10)
    where
      pick : ended_by reply_line says (next says line) bytes ≡ ended says (next says line) bytes
          → ended_by reply_line says (more b line) bytes ≡ ended says (more b line) bytes
          → (e : Bool)
          → cond e (reply says line ++ ended_by reply_line says (next says line) bytes) (ended_by reply_line says (more b line) bytes)
          ≡ cond e (reply says line ++ ended says (next says line) bytes) (ended says (more b line) bytes)
      pick fed grew true = ap (λ (t : List ℕ). reply says line ++ t) fed
      pick fed grew false = grew

  pub last_reply : (line : Coming S) → last_by reply_line says line ≡ last says line
  unfolding last_by last
  last_reply line = refl

  pub listed_reply : (line : Coming S) (reads : List (List ℕ)) → listed_by reply_line says line reads ≡ listed says line reads
  unfolding listed_by listed
  listed_reply line [] = last_reply line
  listed_reply line (bytes ∷ reads) =
      ap (λ (t : List ℕ). t ++ listed_by reply_line says (after says line bytes) reads) (ended_reply line bytes)
      ∙ ap (λ (t : List ℕ). ended says line bytes ++ t) (listed_reply (after says line bytes) reads)
