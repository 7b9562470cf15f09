-- The laws of lines answered one after the other: where no state changes, the replies are those of the page; what is said of each; two ways to answer that
-- agree; an answer that goes by a line's first bytes. Assumes nothing.
use Rattle.std.specs.Prelude.{ℕ, ◌+◌, ◌≤◌, ◌<◌, ◌≡◌, ◌⊎◌, length, take}
use Rattle.std.proofs.Common.{arith, sym, ◌∙◌, inl, inr, length-take, take_all}
use Rattle.std.proofs.Math.Path.{refl, ap}
use mathlib.Core.List.{List, [], ◌∷◌, ◌++◌}
use Rattle.facts.specs.Numbers.{either_way}
use Rattle.lines.specs.Lines.{Reply, reply_line, replies, lines_of, output_of}
use Rattle.lines.specs.Answers.{Served, Serving, replies_from, said_from, numbered_from, state_from, output_from, always}

-- what is said of a line whatever came before it: the replies are the page's
module _ (said : List ℕ → Reply) where
  replies_always : (number : ℕ) (lines : List (List ℕ)) → replies_from (always said) tt number lines ≡ replies said number lines
  unfolding replies_from replies
  replies_always number [] = refl
  replies_always number (line ∷ lines) = ap (λ (t : List ℕ). reply_line number (said line) ++ t) (replies_always (number + 1) lines)

  pub output_always : (input : List ℕ) → output_from (always said) tt input ≡ output_of said input
  unfolding output_from output_of
  output_always input = replies_always 1 (lines_of input)

-- the replies to lines are what is said of them, line by line
module _ {S : Type 0} (says : Serving S) where
  replies_numbered : (s : S) (number : ℕ) (lines : List (List ℕ)) → replies_from says s number lines ≡ numbered_from number (said_from says s lines)
  unfolding replies_from said_from numbered_from
  replies_numbered s number [] = refl
  replies_numbered s number (line ∷ lines) =
      ap (λ (t : List ℕ). reply_line number (says s line).reply ++ t) (replies_numbered (says s line).state (number + 1) lines)

  pub output_numbered : (s : S) (input : List ℕ) → output_from says s input ≡ numbered_from 1 (said_from says s (lines_of input))
  unfolding output_from
  output_numbered s input = replies_numbered s 1 (lines_of input)

-- two ways to answer that agree in certain states, which answers do not leave: from such a state on the replies are the same
module _ {S : Type 0} (one other : Serving S) (Certain : S → Type 0)
    (kept : (s : S) (line : List ℕ) → Certain s → Certain (one s line).state)
    (agree : (s : S) (line : List ℕ) → Certain s → one s line ≡ other s line) where
  replies_agree : (s : S) (number : ℕ) (lines : List (List ℕ)) → Certain s → replies_from one s number lines ≡ replies_from other s number lines
  unfolding replies_from
  replies_agree s number [] c = refl
  replies_agree s number (line ∷ lines) c =
      ap (λ (t : List ℕ). reply_line number (one s line).reply ++ t) (replies_agree (one s line).state (number + 1) lines (kept s line c))
      ∙ ap (λ (a : Served S). reply_line number a.reply ++ replies_from other a.state (number + 1) lines) (agree s line c)

  pub output_agree : (s : S) (input : List ℕ) → Certain s → output_from one s input ≡ output_from other s input
  unfolding output_from
  output_agree s input c = replies_agree s 1 (lines_of input) c

  -- and so is the state at the end
  pub state_agree : (s : S) (lines : List (List ℕ)) → Certain s → state_from one s lines ≡ state_from other s lines
  unfolding state_from
  state_agree s [] c = refl
  state_agree s (line ∷ lines) c =
      state_agree (one s line).state lines (kept s line c) ∙ ap (λ (a : Served S). state_from other a.state lines) (agree s line c)

-- in every state the answer to a line goes by its first `size` bytes, of which there are some
pub record ByFirst {S : Type 0} (says : Serving S) (size : ℕ) : Type 0 where
  pub some : 0 < size
  pub same : (s : S) (line : List ℕ) → says s (take size line) ≡ says s line

-- where all lines of more than `most` bytes have one answer, more bytes than that are enough
pub long_first : {S : Type 0} (says : Serving S) (most size : ℕ) (long : S → Served S)
    → ((s : S) (line : List ℕ) → most < length line → says s line ≡ long s) → most < size → ByFirst says size
long_first {S} says most size long one h = record { some = omega arith; same = λ (s : S) (line : List ℕ). at s line (either_way (length line) size) }
  where
    at : (s : S) (line : List ℕ) → (length line ≤ size) ⊎ (size < length line) → says s (take size line) ≡ says s line
    at s line (inl k) = ap (says s) (take_all size line k)
    at s line (inr k) =
        let over : most < length (take size line) = omega (arith, length-take size line) in
        one s (take size line) over ∙ sym (one s line (omega arith))
