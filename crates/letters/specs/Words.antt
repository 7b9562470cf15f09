-- Words: texts of letters alone. Spelling digits and reading a word give each other back, for any alphabet of 32 distinct letters.
-- Assumes nothing.
use Rattle.std.specs.Prelude.{ℕ, zero, suc, ◌+◌, ◌^◌, ◌<◌, ◌≤◌, ◌≡◌, refl, Bool, true, false, cond, not, List, [], ◌∷◌, map, T, length, get_or, take, drop}
use Rattle.std.proofs.Common.{arith, ap, ap₂, ◌∙◌, subst, ltb-true, lt-ltb}
use Rattle.std.proofs.lemmas.List.{length-map}
use Rattle.letters.specs.Alphabet.{value_in, letter_in, is_letter, first_other, distinct, found_back, spelled_back}
use Rattle.letters.specs.Digits.{Digits, none, more, digits, value_of, digits_are, value_most, value_digits, digits_value}
use Rattle.letters.specs.Letters.{letters, number_in, spelled_in}

-- Each byte of a text is a letter
pub data Word (alphabet : List ℕ) : List ℕ → Type 0 where
  empty : Word alphabet []
  letter : {b : ℕ} {s : List ℕ} → value_in alphabet b < length alphabet → Word alphabet s → Word alphabet (b ∷ s)

-- The thirty-two letters are distinct
pub letters_distinct : T (distinct letters)
letters_distinct = tt

module _ {alphabet : List ℕ} where
  -- A word has no first byte that is no letter
  pub word_first : {s : List ℕ} → Word alphabet s → first_other alphabet s ≡ length s
  word_first empty = refl
  word_first (letter {b} {s} h w) = rw (lt-ltb (value_in alphabet b) (length alphabet) h) (ap suc (word_first w))

  -- A text that has none is a word
  pub first_word : (s : List ℕ) → length s ≤ first_other alphabet s → Word alphabet s
  first_word [] h = empty
  first_word (b ∷ s) h = at (is_letter alphabet b) refl h (first_word s)
    where
      at : (t : Bool) → is_letter alphabet b ≡ t → suc (length s) ≤ cond (not t) 0 (suc (first_other alphabet s))
          → (length s ≤ first_other alphabet s → Word alphabet s) → Word alphabet (b ∷ s)
      at true e k ih = letter (ltb-true (value_in alphabet b) (length alphabet) e) (ih (omega arith))
      at false e k ih = let no_place : ⊥ = omega arith in absurd no_place

  -- The letters of a word's values are the word
  pub word_back : {s : List ℕ} → Word alphabet s → map (letter_in alphabet) (map (value_in alphabet) s) ≡ s
  word_back empty = refl
  word_back (letter {b} h w) = ap₂ ◌∷◌ (spelled_back alphabet b h) (word_back w)

  -- A word's values are digits
  pub word_digits : length alphabet ≡ 32 → {s : List ℕ} → Word alphabet s → Digits (map (value_in alphabet) s)
  word_digits e empty = none
  word_digits e (letter {b} h w) = more {d = value_in alphabet b} (omega arith) (word_digits e w)

  -- A part of a word is a word
  pub word_take : (n : ℕ) {s : List ℕ} → Word alphabet s → Word alphabet (take n s)
  word_take zero w = empty
  word_take (suc n) empty = empty
  word_take (suc n) (letter h w) = letter h (word_take n w)

  pub word_drop : (n : ℕ) {s : List ℕ} → Word alphabet s → Word alphabet (drop n s)
  word_drop zero w = w
  word_drop (suc n) empty = empty
  word_drop (suc n) (letter h w) = word_drop n w

  -- A letter of a word is below the alphabet's length
  pub word_value : {s : List ℕ} → Word alphabet s → (k : ℕ) → k < length s → value_in alphabet (get_or s k 0) < length alphabet
  word_value empty k h = let none : ⊥ = omega arith in absurd none
  word_value (letter v w) zero h = v
  word_value (letter v w) (suc k) h = word_value w k (omega arith)

  -- A word of n letters spells a number below 32 to the n
  pub word_number : length alphabet ≡ 32 → {s : List ℕ} → Word alphabet s → number_in alphabet s < 32 ^ length s
  word_number e {s} w =
      subst (λ (n : ℕ). number_in alphabet s < 32 ^ n) (length-map s (value_in alphabet)) (value_most (word_digits e w))

  -- The digits of that number are the word's values
  pub word_values : length alphabet ≡ 32 → (n : ℕ) {s : List ℕ} → length s ≡ n → Word alphabet s
      → digits n (number_in alphabet s) ≡ map (value_in alphabet) s
  word_values e n {s} k w =
      let places : n ≡ 0 + length (map (value_in alphabet) s) = omega (arith, length-map s (value_in alphabet)) in
      ap (λ (m : ℕ). digits m (number_in alphabet s)) places ∙ digits_value 0 0 (word_digits e w)

module _ (alphabet : List ℕ) (once : T (distinct alphabet)) (long : length alphabet ≡ 32) where
  -- The values of the letters of digits are the digits
  pub digits_back : {ds : List ℕ} → Digits ds → map (value_in alphabet) (map (letter_in alphabet) ds) ≡ ds
  digits_back none = refl
  digits_back (more {d} h r) = ap₂ ◌∷◌ (found_back alphabet once d (omega arith)) (digits_back r)

  -- The letters of digits are a word
  pub digits_word : {ds : List ℕ} → Digits ds → Word alphabet (map (letter_in alphabet) ds)
  digits_word none = empty
  digits_word (more {d} h r) =
      let back : value_in alphabet (letter_in alphabet d) ≡ d = found_back alphabet once d (omega arith) in
      letter {b = letter_in alphabet d} (omega arith) (digits_word r)

  -- A number that fits its letters is read back
  pub number_spelled : (n x : ℕ) → x < 32 ^ n → number_in alphabet (spelled_in alphabet n x) ≡ x
  number_spelled n x h = ap value_of (digits_back (digits_are n x)) ∙ value_digits n 0 x h ∙ omega arith
