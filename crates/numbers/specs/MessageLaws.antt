-- The number of a message and the text after it, by the number at a position of its line. Assumes nothing.
use Rattle.std.specs.Prelude.{Some, None, ℕ, suc, ◌+◌, ◌≤◌, ◌<◌, ◌≡◌, refl, ◌⊎◌, Bool, true, false, List, [], ◌∷◌, length, drop, eqb}
use Rattle.std.proofs.Common.{arith, ap, ◌∙◌, inl, inr, length-drop, drop-drop}
use Rattle.facts.specs.Numbers.{either_way}
use Rattle.lines.specs.Messages.{parted, unparted, led, part, message, not_of_this_form, numbered}
use Rattle.numbers.specs.Numbers.{word, word_at, long_at}
use Rattle.numbers.specs.NumbersLaws.{long_found, long_missed}

-- a text is parted after its word, where a byte follows it
abbrev Parts : List ℕ → Type 0
Parts t = length (word t) < length t → part t ≡ parted (word t) (drop (suc (length (word t))) t)

part_word : (t : List ℕ) → Parts t
unfolding part word
part_word [] h = absurd (omega arith)
part_word (b ∷ t) h = pick (part_word t) (eqb b 32) refl h
  where
    pick : Parts t → (e : Bool) → eqb b 32 ≡ e → Parts (b ∷ t)
    pick later true e h = rw e
    pick later false e h = rw e (ap (led b) (later (omega (arith, (rw e at h)))))

abbrev Whole : List ℕ → Type 0
Whole t = length t ≤ length (word t) → part t ≡ unparted

part_none : (t : List ℕ) → Whole t
unfolding part word
part_none [] h = refl
part_none (b ∷ t) h = pick (part_none t) (eqb b 32) refl h
  where
    pick : Whole t → (e : Bool) → eqb b 32 ≡ e → Whole (b ∷ t)
    pick later true e h = absurd (omega (arith, (rw e at h)))
    pick later false e h = rw e (ap (led b) (later (omega (arith, (rw e at h)))))

-- after a letter and a space: no number, a number at the line's end, a number before a space and the text
module _ (letter : ℕ) (line : List ℕ) (at : ℕ) where
  pub message_missed : long_at line at ≡ None → numbered letter (part (drop at line)) ≡ not_of_this_form
  message_missed m = pick (either_way (length t) (length (word t)))
    where
      t : List ℕ
      t = drop at line

      pick : (length t ≤ length (word t)) ⊎ (length (word t) < length t) → numbered letter (part t) ≡ not_of_this_form
      pick (inl h) = rw (part_none t h)
      pick (inr h) = rw (part_word t h, long_missed line at m)

  module _ (n end : ℕ) (m : long_at line at ≡ Some (n, end)) where
    pub message_ends : length line ≤ end → numbered letter (part (drop at line)) ≡ not_of_this_form
    message_ends h = rw (part_none (drop at line) (omega (arith, h, (long_found line at n end m).ends, length-drop at line)))

    pub message_found : end < length line → numbered letter (part (drop at line)) ≡ message letter n (drop (end + 1) line)
    message_found h =
        let seen = long_found line at n end m in
        let k : ℕ = length (word_at line at) in
        let more : k < length (drop at line) = omega (arith, h, seen.ends, length-drop at line) in
        let on : at + suc k ≡ end + 1 = omega (arith, seen.ends) in
        let rest : drop (suc k) (drop at line) ≡ drop (end + 1) line = drop-drop (suc k) at line ∙ ap (λ (j : ℕ). drop j line) on in
        rw (part_word (drop at line) more, seen.number, ← seen.its, rest)
