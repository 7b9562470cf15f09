-- The laws of halves: they are the two numbers of a code cut at another letter, and a text that reading accepts has the halves of a
-- code. Assumes nothing.
use Rattle.std.specs.Prelude.{ℕ, ◌+◌, ◌*◌, ◌/◌, ◌%◌, ◌^◌, ◌<◌, ◌≡◌, Bool, cond, List, [], ◌∷◌, ◌++◌, map, eqb, Option, Some, None}
use Rattle.std.proofs.Common.{arith, ap₂, ◌∙◌, subst, append_assoc, take_at, drop_at, eqb-true, lt-ltb}
use Rattle.std.proofs.Math.Path.{refl, ap, sym}
use Rattle.std.proofs.Math.Bool.{true, false}
use Rattle.std.proofs.lemmas.List.{map-append}
use Rattle.letters.specs.Alphabet.{letter_in}
use Rattle.letters.specs.Digits.{digits, digits_are, digits_value, value_digits}
use Rattle.letters.specs.Letters.{letters, spelled_in, number_in}
use Rattle.letters.specs.Words.{letters_distinct, number_spelled}
use Rattle.spelling.specs.Spelling.{spelled_both, location_in, rest_in, Numbers, numbers_in}
use Rattle.spelling.specs.SpellingLaws.{
  TwentyLetters,
  location_in_below,
  rest_in_below,
  spelled_back,
  spelled_letters,
  location_read,
  rest_read,
  letters_spell,
  spelled_twenty,
}
use Rattle.code.specs.Code.{Told, tells_nothing, reading, reading_numbers}
use Rattle.code.specs.ReadingLaws.{reading_letters}
use Rattle.halves.specs.declared.Halves.{Halves}
use Rattle.halves.specs.Halves.{halves_by, halves_in, spelled_halves, readable, accepted, is_code, cut_of, code_of, code_in}

-- The last ten digits of a number that has no more, the first of them apart
first_of_ten : (x : ℕ) → x < 32 ^ 10 → digits 10 x ≡ (x / 32 ^ 9) ∷ digits 9 (x % 32 ^ 9)
first_of_ten x h =
    let first : ℕ = x / 32 ^ 9 in
    let rest : ℕ = x % 32 ^ 9 in
    let whole : first * 32 ^ 9 + rest ≡ x = omega arith in
    ap (digits 10) (sym (value_digits 9 first rest (omega arith) ∙ whole))
    ∙ digits_value 1 first (digits_are 9 rest)
    ∙ ap (λ (d : ℕ). d ∷ digits 9 rest) (omega arith)

-- The halves' letters are those of a code's two numbers, the eleventh letter taken from the low half to the location
pub halves_both : (halves : Halves) → halves.low < 32 ^ 10
    → spelled_halves halves ≡ spelled_both (halves.high * 32 + halves.low / 32 ^ 9) (halves.low % 32 ^ 9)
unfolding spelled_both
halves_both halves h =
    let eleventh : ℕ = halves.low / 32 ^ 9 in
    let high : (halves.high * 32 + eleventh) / 32 ≡ halves.high = omega arith in
    let low : (halves.high * 32 + eleventh) % 32 ≡ eleventh = omega arith in
    let rest : List ℕ = spelled_in letters 9 (halves.low % 32 ^ 9) in
    ap (λ (ds : List ℕ). spelled_in letters 10 halves.high ++ map (letter_in letters) ds) (first_of_ten halves.low h)
    ∙ sym (append_assoc (spelled_in letters 10 halves.high) (letter_in letters eleventh ∷ []) rest)
    ∙ ap (λ (s : List ℕ). s ++ rest)
    (sym
    (map-append (letter_in letters) (digits 10 ((halves.high * 32 + eleventh) / 32)) ((halves.high * 32 + eleventh) % 32 ∷ [])
    ∙ ap₂ (λ (q r : ℕ). spelled_in letters 10 q ++ (letter_in letters r ∷ [])) high low))

-- So they are read as these two numbers
pub halves_read_lem : (halves : Halves) → halves.high < 32 ^ 10 → halves.low < 32 ^ 10
    → readable (spelled_halves halves) ≡ accepted (halves.high * 32 + halves.low / 32 ^ 9) (halves.low % 32 ^ 9)
halves_read_lem halves h l =
    let location : ℕ = halves.high * 32 + halves.low / 32 ^ 9 in
    let rest : ℕ = halves.low % 32 ^ 9 in
    ap (λ (text : List ℕ). readable text) (halves_both halves l)
    ∙ ap (λ (told : Told). eqb told.said.number 0) (reading_letters (spelled_letters location rest))
    ∙ ap₂ (λ (m n : ℕ). accepted m n) (location_read location rest (omega arith)) (rest_read location rest (omega arith))

module _ {text : List ℕ} (t : TwentyLetters text) where
  -- The two numbers of twenty letters, cut as halves, which are of ten letters each
  abbrev cut_in : Halves
  cut_in = cut_of (location_in text) (rest_in text)

  cut_high : cut_in.high < 32 ^ 10
  cut_high = omega (arith, location_in_below t)

  cut_low : cut_in.low < 32 ^ 10
  cut_low = omega arith

  -- They spell the text
  cut_spelled : spelled_halves cut_in ≡ text
  cut_spelled =
      halves_both cut_in cut_low
      ∙ ap₂ spelled_both (omega (arith, rest_in_below t)) (omega (arith, rest_in_below t))
      ∙ spelled_back t

  -- so they are its halves
  halves_cut : halves_in text ≡ cut_in
  halves_cut =
      let high : List ℕ = spelled_in letters 10 cut_in.high in
      let low : List ℕ = spelled_in letters 10 cut_in.low in
      ap halves_in (sym cut_spelled)
      ∙ ap₂ halves_by
      (ap (number_in letters) (take_at high low 10 refl) ∙ number_spelled letters letters_distinct refl 10 cut_in.high cut_high)
      (ap (number_in letters) (drop_at high low 10 refl) ∙ number_spelled letters letters_distinct refl 10 cut_in.low cut_low)

-- ---- what a text is to an account

-- What it is where it spells this
abbrev pub code_spelled : Numbers → Option Halves
code_spelled n = cond (eqb n.said.number 0) (code_of n.location n.rest) None

pub code_spelled_lem : (text : List ℕ) → code_spelled (numbers_in text) ≡ code_in text
unfolding code_in reading
code_spelled_lem text = at (eqb (numbers_in text).said.number 0) refl
  where
    at : (b : Bool) → eqb (numbers_in text).said.number 0 ≡ b → code_spelled (numbers_in text) ≡ code_in text
    at true k =
        let t : TwentyLetters text = spelled_twenty text (eqb-true (numbers_in text).said.number 0 k) in
        rw (letters_spell t, halves_cut t)
    at false k = rw (k, k)

-- A text that reading accepts has the halves of a code, which spell it
pub readable_code : (text : List ℕ) → readable text ≡ true → (is_code (halves_in text) ≡ true) × (spelled_halves (halves_in text) ≡ text)
unfolding is_code reading
readable_code text k =
    let back : spelled_halves (halves_in text) ≡ text = ap spelled_halves (halves_cut t) ∙ cut_spelled t in
    let high : (halves_in text).high < 32 ^ 10 = subst (λ (h : Halves). h.high < 32 ^ 10) (sym (halves_cut t)) (cut_high t) in
    let low : (halves_in text).low < 32 ^ 10 = subst (λ (h : Halves). h.low < 32 ^ 10) (sym (halves_cut t)) (cut_low t) in (
      rw (lt-ltb (halves_in text).high (32 ^ 10) high, lt-ltb (halves_in text).low (32 ^ 10) low, back) k,
      back,
    )
  where
    t : TwentyLetters text
    t = spelled_twenty text (at (numbers_in text) (eqb (numbers_in text).said.number 0) refl (eqb-true (reading text).said.number 0 k))
      where
        at : (n : Numbers) (b : Bool) → eqb n.said.number 0 ≡ b
            → (cond b (reading_numbers n.location n.rest) (tells_nothing n.said)).said.number ≡ 0 → n.said.number ≡ 0
        at n true k e = eqb-true n.said.number 0 k
        at n false k e = e

-- What a code tells of its text
abbrev is_read : Option Halves → Bool
is_read (Some halves) = true
is_read None = false

abbrev halves_read : Halves → Option Halves → Halves
halves_read other (Some halves) = halves
halves_read other None = other

module _ (text : List ℕ) where
  -- Whether it is read
  code_readable : is_read (code_in text) ≡ readable text
  unfolding code_in
  code_readable = at (readable text)
    where
      at : (b : Bool) → is_read (cond b (Some (halves_in text)) None) ≡ b
      at true = refl
      at false = refl

  pub code_reads : readable text ≡ true → code_in text ≡ Some (halves_in text)
  unfolding code_in
  code_reads e = rw e

  pub code_refused : code_in text ≡ None → readable text ≡ false
  code_refused e = sym code_readable ∙ ap is_read e

  -- and by which halves
  pub code_read : {code : Halves} → code_in text ≡ Some code → (readable text ≡ true) × (halves_in text ≡ code)
  unfolding code_in
  code_read {code} e =
      let read : readable text ≡ true = sym code_readable ∙ ap is_read e in
      (read, ap (λ (b : Bool). halves_read code (cond b (Some (halves_in text)) None)) (sym read) ∙ ap (halves_read code) e)
