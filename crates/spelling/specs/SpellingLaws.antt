-- The laws of the two numbers of a code: what twenty letters are, and that letters and numbers give each other back. Assumes nothing.
use Rattle.std.specs.Prelude.{ℕ, ◌%◌, ◌^◌, ◌≤◌, ◌<◌, ◌≡◌, Bool, true, false, cond, T, eqb, length}
use Rattle.std.proofs.Common.{arith, ◌∙◌, sym, length-take, length-drop, length-take-le, take_at, drop_at, drop-drop, take_all, ltb-false, eqb-true, eq-eqb, le-ltb}
use Rattle.std.proofs.Math.Path.{refl, ap, ap₂, subst}
use mathlib.Core.List.{List, ◌++◌, map, map-append, append_assoc}
use Rattle.std.proofs.Math.ListN.{take, drop, take-append-drop}
use Rattle.std.proofs.lemmas.Bool.{not-false}
use Rattle.replies.specs.Replies.{Said, accepted, run}
use Rattle.replies.specs.RepliesLaws.{numbered, Passed, passed}
use Rattle.letters.specs.Alphabet.{first_other, letter_in}
use Rattle.letters.specs.Digits.{digits, digits_are, digits_append}
use Rattle.letters.specs.Letters.{letters, spelled_in, number_in}
use Rattle.letters.specs.Words.{
  Word,
  letters_distinct,
  word_first,
  first_word,
  word_back,
  word_take,
  word_drop,
  word_number,
  word_values,
  digits_word,
  number_spelled,
}
use Rattle.spelling.specs.Spelling.{spelled_both, spelled_into, location_in, rest_in, text_checks, two_numbers, no_numbers, numbers_in}

-- Twenty letters
pub record TwentyLetters (text : List ℕ) : Type 0 where
  pub twenty : length text ≡ 20
  pub word : Word letters text

-- Neither check on the text has number 0
pub text_numbered : (text : List ℕ) → T (numbered (text_checks text))
unfolding text_checks
text_numbered text = tt

-- What checks 11 and 12 leave
pub text_passed : (text : List ℕ) → (run (text_checks text)).number ≡ 0 → TwentyLetters text
unfolding text_checks
text_passed text e = leaves (passed (text_checks text) tt e)
  where
    leaves : Passed (text_checks text) → TwentyLetters text
    leaves (length_passes, (letters_pass, _)) = record {
      twenty = eqb-true (length text) 20 (not-false (eqb (length text) 20) length_passes);
      word = first_word text (ltb-false (first_other letters text) (length text) letters_pass);
    }

-- Twenty letters pass them
pub letters_pass : {text : List ℕ} → TwentyLetters text → run (text_checks text) ≡ accepted
unfolding text_checks
letters_pass {text} t =
    let all : length text ≤ first_other letters text = omega (arith, word_first t.word) in
    rw (eq-eqb (length text) 20 t.twenty, le-ltb (first_other letters text) (length text) all)

-- and spell two numbers
pub letters_spell : {text : List ℕ} → TwentyLetters text → numbers_in text ≡ two_numbers (location_in text) (rest_in text)
unfolding numbers_in
letters_spell t = rw (letters_pass t)

-- and only twenty letters do
pub spelled_twenty : (text : List ℕ) → (numbers_in text).said.number ≡ 0 → TwentyLetters text
unfolding numbers_in
spelled_twenty text e = text_passed text (at (run (text_checks text)) (eqb (run (text_checks text)).number 0) refl e)
  where
    at : (s : Said) (b : Bool) → eqb s.number 0 ≡ b → (cond b (two_numbers (location_in text) (rest_in text)) (no_numbers s)).said.number ≡ 0
        → s.number ≡ 0
    at s true k e = eqb-true s.number 0 k
    at s false k e = e

module _ {text : List ℕ} (t : TwentyLetters text) where
  eleven : length (take 11 text) ≡ 11
  eleven = simp length-take (omega arith)

  nine : length (drop 11 text) ≡ 9
  nine = simp length-drop (omega arith)

  -- The first is of 55 bits and the second of 45
  pub location_in_below : location_in text < 2 ^ 55
  location_in_below = subst (λ (n : ℕ). location_in text < 32 ^ n) eleven (word_number refl (word_take 11 t.word))

  pub rest_in_below : rest_in text < 2 ^ 45
  rest_in_below = subst (λ (n : ℕ). rest_in text < 32 ^ n) nine (word_number refl (word_drop 11 t.word))

  -- so that `letters::number` gives them whole
  pub location_low : location_in text % 2 ^ 60 ≡ location_in text
  location_low = omega (arith, location_in_below)

  pub rest_low : number_in letters (take 9 (drop 11 text)) % 2 ^ 60 ≡ rest_in text
  rest_low =
      ap (λ (s : List ℕ). number_in letters s % 2 ^ 60) (take_all 9 (drop 11 text) (omega (arith, nine))) ∙ omega (arith, rest_in_below)

  -- The two numbers spelled are the text
  pub spelled_back : spelled_both (location_in text) (rest_in text) ≡ text
  unfolding spelled_both
  spelled_back =
      let first : spelled_in letters 11 (location_in text) ≡ take 11 text =
      ap (map (letter_in letters)) (word_values refl 11 eleven (word_take 11 t.word)) ∙ word_back (word_take 11 t.word) in
      let last : spelled_in letters 9 (rest_in text) ≡ drop 11 text =
      ap (map (letter_in letters)) (word_values refl 9 nine (word_drop 11 t.word)) ∙ word_back (word_drop 11 t.word) in
      ap₂ ◌++◌ first last ∙ take-append-drop 11 text

module _ (location rest : ℕ) where
  -- Two numbers spelled are twenty letters
  pub spelled_letters : TwentyLetters (spelled_both location rest)
  unfolding spelled_both
  spelled_letters = record {
    twenty = refl;
    word =
        subst (Word letters) (map-append (letter_in letters) (digits 11 location) (digits 9 rest))
        (digits_word letters letters_distinct refl (digits_append (digits_are 11 location) (digits_are 9 rest)));
  }

  -- They are read back, where they have 55 and 45 bits
  pub location_read : location < 2 ^ 55 → location_in (spelled_both location rest) ≡ location
  unfolding spelled_both
  location_read h = number_spelled letters letters_distinct refl 11 location h

  pub rest_read : rest < 2 ^ 45 → rest_in (spelled_both location rest) ≡ rest
  unfolding spelled_both
  rest_read h = number_spelled letters letters_distinct refl 9 rest h

  -- A room that has twenty bytes gets these, and keeps its others
  pub spelled_into_lem : (room : List ℕ) → 20 ≤ length room → spelled_into room location rest ≡ spelled_both location rest ++ drop 20 room
  unfolding spelled_into
  spelled_into_lem room h = rw (le-ltb (length room) 20 h)

-- A room into which eleven bytes and then nine are written has these twenty, and its other bytes
pub room_after : (room s t : List ℕ) → length s ≡ 11
    → take 11 (s ++ drop 11 room) ++ (t ++ drop 9 (drop 11 (s ++ drop 11 room))) ≡ (s ++ t) ++ drop 20 room
room_after room s t e =
    ap₂ (λ (x y : List ℕ). x ++ (t ++ drop 9 y)) (take_at s (drop 11 room) 11 e) (drop_at s (drop 11 room) 11 e)
    ∙ ap (λ (x : List ℕ). s ++ (t ++ x)) (drop-drop 9 11 room)
    ∙ sym (append_assoc s t (drop 20 room))

-- The nine bytes after the eleven are nine
pub part_after : (room s : List ℕ) → length s ≡ 11 → 20 ≤ length room → length (take 9 (drop 11 (s ++ drop 11 room))) ≡ 9
part_after room s e h =
    ap (λ (x : List ℕ). length (take 9 x)) (drop_at s (drop 11 room) 11 e)
    ∙ length-take-le 9 (drop 11 room) (simp length-drop (omega arith))
