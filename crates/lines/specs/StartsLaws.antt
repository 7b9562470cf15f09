-- The laws of a line that starts with a text: byte by byte, and what the library says of a slice that starts with another. Assumes nothing.
use Rattle.std.specs.Prelude.{ℕ, ◌+◌, ◌≤◌, ◌<◌, ◌≡◌, Bool, true, false, ◌&&◌, List, [], ◌∷◌, length, drop, get_or, eqb}
use Rattle.std.specs.List.{starts_with as slice_starts_with}
use Rattle.std.proofs.Common.{refl, sym, ap₂, add-one}
use Rattle.std.proofs.Math.ListN.{drop_of_length-le}
use Rattle.std.proofs.Math.Seq.{drop-cons}
use borrow.Author.Tests.{eq-eqb, eqb-true, ne_eqb}
use Rattle.facts.specs.Tests.{same_truth}
use Rattle.lines.specs.Starts.{starts_with}

-- from a position of both on
abbrev pub starts_from : List ℕ → List ℕ → ℕ → Bool
starts_from line text i = starts_with (drop i line) (drop i text)

-- past the text's end, past the line's, at two bytes that differ, at one byte in both
module _ (line text : List ℕ) (i : ℕ) where
  pub starts_end : length text ≤ i → starts_from line text i ≡ true
  unfolding starts_with
  starts_end h = rw (drop_of_length-le text h)

  pub starts_short : i < length text → length line ≤ i → starts_from line text i ≡ false
  unfolding starts_with
  starts_short h k = rw (drop-cons text i 0 h, drop_of_length-le line k)

  pub starts_other : i < length text → i < length line → (get_or line i 0 ≡ get_or text i 0 → ⊥) → starts_from line text i ≡ false
  unfolding starts_with
  starts_other h k n = rw (drop-cons text i 0 h, drop-cons line i 0 k, ne_eqb (get_or line i 0) (get_or text i 0) n)

  pub starts_more : i < length text → i < length line → get_or line i 0 ≡ get_or text i 0 → starts_from line text i ≡ starts_from line text (i + 1)
  unfolding starts_with
  starts_more h k e =
      rw (drop-cons text i 0 h, drop-cons line i 0 k, eq-eqb (get_or line i 0) (get_or text i 0) e, add-one)

-- two bytes are the same in either order
either_order : (a b : ℕ) → eqb b a ≡ eqb a b
either_order a b = same_truth (λ e. eq-eqb a b (sym (eqb-true b a e))) (λ e. eq-eqb b a (sym (eqb-true a b e)))

-- what the library says of a slice that starts with another is what is said of a line that starts with a text
pub starts_as : (line text : List ℕ) → slice_starts_with eqb line text ≡ starts_with line text
unfolding starts_with
starts_as line [] = refl
starts_as [] (b ∷ text) = refl
starts_as (a ∷ line) (b ∷ text) = ap₂ ◌&&◌ (either_order a b) (starts_as line text)
