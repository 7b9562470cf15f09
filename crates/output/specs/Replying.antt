-- Replies put into an output: one reply part by part, and a loop over the bytes of a read, where what is put so far, with what the bytes
-- to come give, is the whole. Assumes nothing.
use Rattle.std.specs.Prelude.{ℕ, ◌+◌, ◌≤◌, ◌<◌, ◌≡◌, refl, length, drop, get_or}
use Rattle.std.proofs.Common.{add-one, sym, ◌∙◌, drop-cons}
use Rattle.std.proofs.Math.Path.{ap}
use mathlib.Core.List.{List, [], ◌∷◌, ◌++◌, append-nil, append_assoc}
use Rattle.std.proofs.Math.ListN.{drop_of_length-le}
use Rattle.room.specs.Room.{Put}
use Rattle.room.specs.RoomLaws.{put_nothing, put_then, put_four}
use Rattle.facts.specs.Texts.{bytes}
use Rattle.lines.specs.Lines.{Reply, decimal, saying, reply_line}
use Rattle.lines.specs.Answers.{Serving}
use Rattle.lines.specs.Automaton.{Coming, after, ended}
use Rattle.lines.specs.AutomatonLaws.{after_append, ended_append}

-- the line's number, a space, what is said and a line feed
pub put_reply : (number : ℕ) (said : Reply) {out : List ℕ} {at h i j end : ℕ} {p q r later : List ℕ} → Put out at (decimal number) h p
    → Put p h (bytes " ") i q → Put q i (saying said) j r → Put r j (bytes "\n") end later → Put out at (reply_line number said) end later
unfolding reply_line
put_reply number said = put_four

-- the bytes before the position i are taken, and the replies in them put
pub record Replying {S : Type 0} (says : Serving S) (start : Coming S) (bytes lent : List ℕ) (line : Coming S) (out : List ℕ) (put i : ℕ) : Type 0 where
  pub done : List ℕ
  pub comes : after says start bytes ≡ after says line (drop i bytes)
  pub whole : ended says start bytes ≡ done ++ ended says line (drop i bytes)
  pub filled : Put lent 0 done put out

pub replying_begin : {S : Type 0} (says : Serving S) (start : Coming S) (bytes lent : List ℕ) → Replying says start bytes lent start lent 0 0
replying_begin says start bytes lent = record { done = []; comes = refl; whole = refl; filled = put_nothing lent 0 }

module _ {S : Type 0} {says : Serving S} {start : Coming S} {bytes lent : List ℕ} {line : Coming S} {out : List ℕ} {put i : ℕ}
    (so : Replying says start bytes lent line out put i) where
  -- a byte further
  pub replying_step : {further : Coming S} {end : ℕ} {later : List ℕ} → i < length bytes → further ≡ after says line (get_or bytes i 0 ∷ [])
      → Put out put (ended says line (get_or bytes i 0 ∷ [])) end later → Replying says start bytes lent further later end (i + 1)
  replying_step h e puts =
      let b : ℕ = get_or bytes i 0 in
      let rest : List ℕ = drop (i + 1) bytes in
      let here : drop i bytes ≡ b ∷ rest = drop-cons bytes i 0 h ∙ ap (λ (k : ℕ). b ∷ drop k bytes) (sym (add-one i)) in
      record {
        done = so.done ++ ended says line (b ∷ []);
        comes = so.comes ∙ ap (after says line) here ∙ after_append says line (b ∷ []) rest ∙ ap (λ (l : Coming S). after says l rest) (sym e);
        whole =
            so.whole
            ∙ ap (λ (t : List ℕ). so.done ++ ended says line t) here
            ∙ ap (λ (t : List ℕ). so.done ++ t) (ended_append says line (b ∷ []) rest)
            ∙ sym (append_assoc so.done (ended says line (b ∷ [])) (ended says (after says line (b ∷ [])) rest))
            ∙ ap (λ (l : Coming S). so.done ++ ended says line (b ∷ []) ++ ended says l rest) (sym e);
        filled = put_then so.filled puts;
      }

  -- past the bytes' end
  pub replying_end : length bytes ≤ i → (line ≡ after says start bytes) × Put lent 0 (ended says start bytes) put out
  unfolding after ended
  replying_end h =
      let none = drop_of_length-le bytes h in
      (sym (so.comes ∙ ap (after says line) none), rw (so.whole, none, append-nil so.done) so.filled)
