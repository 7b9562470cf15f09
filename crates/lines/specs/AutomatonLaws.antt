-- The laws of the line automaton: however reads cut an input, the automaton's replies are the output that the page gives the whole
-- input. Assumes nothing.
use Prim.Native.Nat.{ℕ, ◌+◌, ◌%◌, ◌^◌, ◌≤◌, ◌<◌, min}
use Rattle.std.proofs.Common.{mod-eq_of_lt, add-one, arith, subst, ◌∙◌, inl, inr, length-set, length-append, take-suc-set, take_all, lt-ltb, le-ltb, eq-eqb, ne_eqb, eqb-true}
use Rattle.std.specs.Prelude.{◌≡◌, ◌⊎◌, Bool, length, take, set}
use Rattle.std.proofs.Math.Path.{refl, sym, ap}
use Rattle.std.proofs.Math.Bool.{true, false}
use mathlib.Core.List.{List, [], ◌∷◌, ◌++◌, append-nil, append_assoc}
use Rattle.std.proofs.Math.Seq.{set_out, append_snoc}
use Rattle.std.proofs.lemmas.List.{take-append-le}
use Rattle.std.proofs.Math.Dec.{eqb}
use Rattle.facts.specs.Numbers.{either_way}
use Rattle.lines.specs.Lines.{cut, longer, without_empty_last, lines_of, reply_line}
use Rattle.lines.specs.Answers.{Served, Serving, replies_from, state_from, output_from}
use Rattle.lines.specs.AnswersLaws.{ByFirst}
use Rattle.lines.specs.Automaton.{Coming, first, grown, more, answer, reply, next, after, ended, last, final, together, listed}

-- ---- one byte, a line feed or another; the end of the input, in a line that has not begun or in one that has

module _ {S : Type 0} (says : Serving S) (line : Coming S) where
  pub byte_feed : (b : ℕ) → b ≡ 10 → (after says line (b ∷ []) ≡ next says line) × (ended says line (b ∷ []) ≡ reply says line)
  unfolding after ended
  byte_feed b e = rw (eq-eqb b 10 e) (refl, append-nil (reply says line))

  pub byte_more : (b : ℕ) → (b ≡ 10 → ⊥) → (after says line (b ∷ []) ≡ more b line) × (ended says line (b ∷ []) ≡ [])
  unfolding after ended
  byte_more b n = rw (ne_eqb b 10 n) (refl, refl)

  pub last_none : line.len ≡ 0 → last says line ≡ []
  unfolding last
  last_none e = rw (eq-eqb line.len 0 e)

  pub last_some : (line.len ≡ 0 → ⊥) → last says line ≡ reply says line
  unfolding last
  last_some n = rw (ne_eqb line.len 0 n)

  pub final_none : line.len ≡ 0 → final says line ≡ line.state
  unfolding final
  final_none e = rw (eq-eqb line.len 0 e)

  pub final_some : (line.len ≡ 0 → ⊥) → final says line ≡ (answer says line).state
  unfolding final
  final_some n = rw (ne_eqb line.len 0 n)

-- ---- the bytes that stand in the room

-- how many there are after one byte more: in a room that lasts, and past its end
pub grown_within : (size len : ℕ) → len < size → grown size len ≡ len + 1
unfolding grown
grown_within size len h = rw (lt-ltb len size h)

pub grown_past : (size len : ℕ) → size ≤ len → grown size len ≡ len
unfolding grown
grown_past size len h = rw (le-ltb len size h)

-- the room has the first bytes of a text, as many as it takes
pub record Stands {S : Type 0} (line : Coming S) (text : List ℕ) : Type 0 where
  pub len : line.len ≡ min (length text) (length line.room)
  pub held : take line.len line.room ≡ take (length line.room) text

-- at the start of a line
pub stands_none : {S : Type 0} (number : ℕ) (room : List ℕ) (s : S) → Stands (record { number = number; len = 0; room = room; state = s }) []
stands_none number room s = record { len = omega arith; held = sym (take_all (length room) [] (omega arith)) }

-- a byte more
pub stands_more : {S : Type 0} (line : Coming S) (text : List ℕ) (b : ℕ) → Stands line text → Stands (more b line) (text ++ (b ∷ []))
stands_more line text b so = pick (either_way (length line.room) (length text))
  where
    size : length (set line.room line.len b) ≡ length line.room
    size = length-set line.room line.len b

    one : length (text ++ (b ∷ [])) ≡ length text + 1
    one = length-append text (b ∷ [])

    pick : (length line.room ≤ length text) ⊎ (length text < length line.room) → Stands (more b line) (text ++ (b ∷ []))
    pick (inl h) =
        let len : line.len ≡ length line.room = omega (arith, so.len) in
        let n : grown (length line.room) line.len ≡ line.len = grown_past (length line.room) line.len (omega arith) in
        let same : set line.room line.len b ≡ line.room = set_out line.room line.len b (omega arith) in
        record {
          len = omega (arith, n, len, size, one);
          held =
              ap (λ (k : ℕ). take k (set line.room line.len b)) n
              ∙ ap (take line.len) same
              ∙ so.held
              ∙ sym (take-append-le (length line.room) text (b ∷ []) h)
              ∙ ap (λ (k : ℕ). take k (text ++ (b ∷ []))) (sym size);
        }
    pick (inr h) =
        let len : line.len ≡ length text = omega (arith, so.len) in
        let fits : line.len < length line.room = omega arith in
        let n : grown (length line.room) line.len ≡ line.len + 1 = grown_within (length line.room) line.len fits in
        record {
          len = omega (arith, n, len, size, one);
          held =
              ap (λ (k : ℕ). take k (set line.room line.len b)) (n ∙ add-one line.len)
              ∙ take-suc-set line.room line.len b fits
              ∙ ap (λ (t : List ℕ). t ++ (b ∷ [])) (so.held ∙ take_all (length line.room) text (omega arith))
              ∙ sym (take_all (length (set line.room line.len b)) (text ++ (b ∷ [])) (omega (arith, size, one)));
        }

-- ---- lines of which the first has begun

-- pieces whose first has a text in front
pub joined : List ℕ → List (List ℕ) → List (List ℕ)
joined text [] = text ∷ []
joined text (p ∷ ps) = (text ++ p) ∷ ps

pub joined_first : (text p : List ℕ) (ps : List (List ℕ)) → joined text (p ∷ ps) ≡ (text ++ p) ∷ ps
unfolding joined
joined_first text p ps = refl

pub joined_longer : (text : List ℕ) (b : ℕ) (ps : List (List ℕ)) → joined text (longer b ps) ≡ joined (text ++ (b ∷ [])) ps
unfolding joined
joined_longer text b [] = refl
joined_longer text b (p ∷ ps) = ap (λ (q : List ℕ). q ∷ ps) (sym (append_snoc text b p))

-- an empty text in front of a text's pieces
pub joined_cut : (text : List ℕ) → joined [] (cut 10 text) ≡ cut 10 text
unfolding cut joined
joined_cut [] = refl
joined_cut (x ∷ text) = pick (eqb x 10) refl
  where
    pieces : (ps : List (List ℕ)) → joined [] (longer x ps) ≡ longer x ps
    pieces [] = refl
    pieces (p ∷ ps) = refl

    pick : (e : Bool) → eqb x 10 ≡ e → joined [] (cut 10 (x ∷ text)) ≡ cut 10 (x ∷ text)
    pick true e = rw e
    pick false e = rw e (pieces (cut 10 text))

-- a line before other pieces
lines_more : (line p : List ℕ) (ps : List (List ℕ)) → without_empty_last (line ∷ p ∷ ps) ≡ line ∷ without_empty_last (p ∷ ps)
lines_more [] p ps = refl
lines_more (b ∷ line) p ps = refl

-- a line before a text, which has one piece at least
pub lines_cut : (line text : List ℕ) → without_empty_last (line ∷ cut 10 text) ≡ line ∷ without_empty_last (cut 10 text)
unfolding cut
lines_cut line [] = lines_more line [] []
lines_cut line (x ∷ text) = pick (eqb x 10) refl
  where
    pieces : (ps : List (List ℕ)) → without_empty_last (line ∷ longer x ps) ≡ line ∷ without_empty_last (longer x ps)
    pieces [] = lines_more line (x ∷ []) []
    pieces (p ∷ ps) = lines_more line (x ∷ p) ps

    pick : (e : Bool) → eqb x 10 ≡ e → without_empty_last (line ∷ cut 10 (x ∷ text)) ≡ line ∷ without_empty_last (cut 10 (x ∷ text))
    pick true e = rw e (lines_more line [] (cut 10 text))
    pick false e = rw e (pieces (cut 10 text))

-- ---- the whole output

module _ {S : Type 0} (says : Serving S) where
  -- the answer goes by what stands in the room
  pub answer_stands : (line : Coming S) (text : List ℕ) → ByFirst says (length line.room) → Stands line text
      → answer says line ≡ says line.state text
  answer_stands line text by so = ap (says line.state) so.held ∙ by.same line.state text

  -- from a line on that has begun with a text, the replies and the state at the end are those of the lines
  record From (line : Coming S) (text input : List ℕ) : Type 0 where
    pub replied :
        ended says line input ++ last says (after says line input)
        ≡ replies_from says line.state line.number (without_empty_last (joined text (cut 10 input)))
    pub left : final says (after says line input) ≡ state_from says line.state (without_empty_last (joined text (cut 10 input)))

  -- where the input ends
  from_end : (line : Coming S) (text : List ℕ) → ByFirst says (length line.room) → Stands line text → From line text []
  unfolding ended after cut joined replies_from state_from
  from_end line [] by so =
      let none : line.len ≡ 0 = omega (arith, so.len) in
      record { replied = last_none says line none; left = final_none says line none }
  from_end line (b ∷ text) by so =
      let some : line.len ≡ 0 → ⊥ = λ (e : line.len ≡ 0). absurd (omega (arith, so.len, by.some)) in
      let here = answer_stands line (b ∷ text) by so in
      let none = append-nil (reply_line line.number (says line.state (b ∷ text)).reply) in
      record {
        replied =
            rw (append-nil text)
            (last_some says line some ∙ ap (λ (a : Served S). reply_line line.number a.reply) here ∙ sym none);
        left = rw (append-nil text) (final_some says line some ∙ ap (λ (a : Served S). a.state) here);
      }

  -- where a line feed comes
  from_feed : (line : Coming S) (text input : List ℕ) (number : (line.number + 1) % 2 ^ 64 ≡ line.number + 1)
      → answer says line ≡ says line.state text → From (next says line) [] input → From line text (10 ∷ input)
  unfolding ended after cut joined replies_from state_from
  from_feed line text input number here later =
      let rest : List (List ℕ) = without_empty_last (cut 10 input) in
      let n : ℕ = (line.number + 1) % 2 ^ 64 in
      let s : S = (answer says line).state in
      record {
        replied =
            append_assoc (reply says line) (ended says (next says line) input) (last says (after says (next says line) input))
            ∙ ap (λ (t : List ℕ). reply says line ++ t) later.replied
            ∙ ap (λ (ps : List (List ℕ)). reply says line ++ replies_from says s n (without_empty_last ps)) (joined_cut input)
            ∙ ap (λ (m : ℕ). reply says line ++ replies_from says s m rest) number
            ∙ ap (λ (a : Served S). reply_line line.number a.reply ++ replies_from says a.state (line.number + 1) rest) here
            ∙ ap (λ (t : List ℕ). replies_from says line.state line.number (t ∷ rest)) (sym (append-nil text))
            ∙ ap (replies_from says line.state line.number) (sym (lines_cut (text ++ []) input));
        left =
            later.left
            ∙ ap (λ (ps : List (List ℕ)). state_from says s (without_empty_last ps)) (joined_cut input)
            ∙ ap (λ (a : Served S). state_from says a.state rest) here
            ∙ ap (λ (t : List ℕ). state_from says line.state (t ∷ rest)) (sym (append-nil text))
            ∙ ap (state_from says line.state) (sym (lines_cut (text ++ []) input));
      }

  -- where another byte comes
  from_more : (line : Coming S) (text : List ℕ) (b : ℕ) (input : List ℕ) → eqb b 10 ≡ false → From (more b line) (text ++ (b ∷ [])) input
      → From line text (b ∷ input)
  unfolding ended after cut
  from_more line text b input e later =
      record { replied = rw (e, joined_longer text b (cut 10 input)) later.replied; left = rw (e, joined_longer text b (cut 10 input)) later.left }

  from : (line : Coming S) (text input : List ℕ) → ByFirst says (length line.room) → line.number + length input < 2 ^ 64 → Stands line text
      → From line text input
  from line text [] by few so = from_end line text by so
  from line text (b ∷ input) by few so =
      let size : ByFirst says (length (more b line).room) = subst (λ (k : ℕ). ByFirst says k) (sym (length-set line.room line.len b)) by in
      let one = number in
      pick
      (from (next says line) [] input by (omega (arith, one, few)) (stands_none (next says line).number line.room (answer says line).state))
      (from (more b line) (text ++ (b ∷ [])) input size (omega arith) (stands_more line text b so))
      (eqb b 10)
      refl
    where
      number : (line.number + 1) % 2 ^ 64 ≡ line.number + 1
      number = mod-eq_of_lt (omega (arith, few))

      pick : From (next says line) [] input → From (more b line) (text ++ (b ∷ [])) input → (e : Bool) → eqb b 10 ≡ e → From line text (b ∷ input)
      pick fed grew true e =
          subst (λ (x : ℕ). From line text (x ∷ input)) (sym (eqb-true b 10 e)) (from_feed line text input number (answer_stands line text by so) fed)
      pick fed grew false e = from_more line text b input e grew

  -- reads one after the other are one read: for the line that comes in then, and for the replies
  abbrev AfterJoins : Coming S → List ℕ → List ℕ → Type 0
  AfterJoins line s t = after says line (s ++ t) ≡ after says (after says line s) t

  abbrev EndedJoins : Coming S → List ℕ → List ℕ → Type 0
  EndedJoins line s t = ended says line (s ++ t) ≡ ended says line s ++ ended says (after says line s) t

  pub after_append : (line : Coming S) (s t : List ℕ) → after says line (s ++ t) ≡ after says (after says line s) t
  unfolding after
  after_append line [] t = refl
  after_append line (b ∷ s) t = pick (after_append (next says line) s t) (after_append (more b line) s t) (eqb b 10) refl
    where
      pick : AfterJoins (next says line) s t → AfterJoins (more b line) s t → (e : Bool) → eqb b 10 ≡ e → AfterJoins line (b ∷ s) t
      pick fed grew true e = rw e fed
      pick fed grew false e = rw e grew

  pub ended_append : (line : Coming S) (s t : List ℕ) → ended says line (s ++ t) ≡ ended says line s ++ ended says (after says line s) t
  unfolding ended after
  ended_append line [] t = refl
  ended_append line (b ∷ s) t = pick (ended_append (next says line) s t) (ended_append (more b line) s t) (eqb b 10) refl
    where
      pick : EndedJoins (next says line) s t → EndedJoins (more b line) s t → (e : Bool) → eqb b 10 ≡ e → EndedJoins line (b ∷ s) t
      pick fed grew true e = rw e
          (ap (λ (u : List ℕ). reply says line ++ u) fed
          ∙ sym (append_assoc (reply says line) (ended says (next says line) s) (ended says (after says (next says line) s) t)))
      pick fed grew false e = rw e grew

  listed_together : (line : Coming S) (reads : List (List ℕ))
      → listed says line reads ≡ ended says line (together reads) ++ last says (after says line (together reads))
  unfolding listed together ended after
  listed_together line [] = refl
  listed_together line (bytes ∷ reads) =
      let rest : List ℕ = together reads in
      let here : Coming S = after says line bytes in
      ap (λ (t : List ℕ). ended says line bytes ++ t) (listed_together here reads)
      ∙ sym (append_assoc (ended says line bytes) (ended says here rest) (last says (after says here rest)))
      ∙ ap (λ (t : List ℕ). t ++ last says (after says here rest)) (sym (ended_append line bytes rest))
      ∙ ap (λ (l : Coming S). ended says line (bytes ++ rest) ++ last says l) (sym (after_append line bytes rest))

  -- where the room takes the bytes that a line goes by
  module _ (room : List ℕ) (s : S) (by : ByFirst says (length room)) where
    -- from the first line on, the lines are those of the input
    from_first : (input : List ℕ) → 1 + length input < 2 ^ 64 → From (first room s) [] input
    from_first input few = from (first room s) [] input by few (stands_none 1 room s)

    -- however reads cut an input, the replies are the output for the whole
    pub listed_output : (reads : List (List ℕ)) → 1 + length (together reads) < 2 ^ 64
        → listed says (first room s) reads ≡ output_from says s (together reads)
    unfolding output_from lines_of joined
    listed_output reads few =
        listed_together (first room s) reads
        ∙ (from_first (together reads) few).replied
        ∙ ap (λ (ps : List (List ℕ)). replies_from says s 1 (without_empty_last ps)) (joined_cut (together reads))

    -- and the state at the end is the one after its lines
    pub final_state : (input : List ℕ) → 1 + length input < 2 ^ 64
        → final says (after says (first room s) input) ≡ state_from says s (lines_of input)
    unfolding lines_of joined
    final_state input few =
        (from_first input few).left ∙ ap (λ (ps : List (List ℕ)). state_from says s (without_empty_last ps)) (joined_cut input)
