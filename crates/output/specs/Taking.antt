-- A loop over the bytes of a read, where what is put so far, with what the bytes to come give, is the whole: as specs/Replying.antt says it of
-- replies, of whatever is written for a line. Assumes nothing.
use Rattle.std.specs.Prelude.{ℕ, ◌+◌, ◌≤◌, ◌<◌, ◌≡◌, refl, length, drop, get_or}
use Rattle.std.proofs.Common.{add-one, sym, ◌∙◌, drop-cons}
use Rattle.std.proofs.Math.Path.{ap}
use mathlib.Core.List.{List, [], ◌∷◌, ◌++◌, append-nil, append_assoc}
use Rattle.std.proofs.Math.ListN.{drop_of_length-le}
use Rattle.room.specs.Room.{Put}
use Rattle.room.specs.RoomLaws.{put_nothing, put_then}
use Rattle.lines.specs.Answers.{Serving}
use Rattle.lines.specs.Automaton.{Coming, after}
use Rattle.lines.specs.AutomatonLaws.{after_append}
use Rattle.lines.specs.Putting.{Putting, ended_by}
use Rattle.lines.specs.PuttingLaws.{ended_append}

-- the bytes before the position i are taken, and what is written for the lines in them put
pub record Taking {S : Type 0} (writes : Putting) (says : Serving S) (start : Coming S) (bytes lent : List ℕ) (line : Coming S) (out : List ℕ) (put i : ℕ) : Type 0 where
  pub done : List ℕ
  pub comes : after says start bytes ≡ after says line (drop i bytes)
  pub whole : ended_by writes says start bytes ≡ done ++ ended_by writes says line (drop i bytes)
  pub filled : Put lent 0 done put out

pub taking_begin : {writes : Putting} {S : Type 0} (says : Serving S) (start : Coming S) (bytes lent : List ℕ)
    → Taking writes says start bytes lent start lent 0 0
taking_begin says start bytes lent = record { done = []; comes = refl; whole = refl; filled = put_nothing lent 0 }

module _ {S : Type 0} {writes : Putting} {says : Serving S} {start : Coming S} {bytes lent : List ℕ} {line : Coming S} {out : List ℕ} {put i : ℕ}
    (so : Taking writes says start bytes lent line out put i) where
  -- a byte further
  pub taking_step : {further : Coming S} {end : ℕ} {later : List ℕ} → i < length bytes → further ≡ after says line (get_or bytes i 0 ∷ [])
      → Put out put (ended_by writes says line (get_or bytes i 0 ∷ [])) end later → Taking writes says start bytes lent further later end (i + 1)
  taking_step h e puts =
      let b : ℕ = get_or bytes i 0 in
      let rest : List ℕ = drop (i + 1) bytes in
      let here : drop i bytes ≡ b ∷ rest = drop-cons bytes i 0 h ∙ ap (λ (k : ℕ). b ∷ drop k bytes) (sym (add-one i)) in
      let this : List ℕ = ended_by writes says line (b ∷ []) in
      record {
        done = so.done ++ this;
        comes = so.comes ∙ ap (after says line) here ∙ after_append says line (b ∷ []) rest ∙ ap (λ (l : Coming S). after says l rest) (sym e);
        whole =
            so.whole
            ∙ ap (λ (t : List ℕ). so.done ++ ended_by writes says line t) here
            ∙ ap (λ (t : List ℕ). so.done ++ t) (ended_append says writes line (b ∷ []) rest)
            ∙ sym (append_assoc so.done this (ended_by writes says (after says line (b ∷ [])) rest))
            ∙ ap (λ (l : Coming S). so.done ++ this ++ ended_by writes says l rest) (sym e);
        filled = put_then so.filled puts;
      }

  -- past the bytes' end
  pub taking_end : length bytes ≤ i → (line ≡ after says start bytes) × Put lent 0 (ended_by writes says start bytes) put out
  unfolding after ended_by
  taking_end h =
      let none = drop_of_length-le bytes h in
      (sym (so.comes ∙ ap (after says line) none), rw (so.whole, none, append-nil so.done) so.filled)
