-- The laws of words and numbers that proofs cite: digits one by one, a word at a position, the numbers of a text one by one.
-- Assumes nothing.
use Prim.Native.Nat.{ℕ, suc, ◌+◌, ◌-◌, ◌*◌, ◌≤◌, ◌<◌}
use Rattle.std.proofs.Common.{add-one, sym, ◌∙◌, length-take, drop_of_length-le, drop-cons, drop-drop, get_or-drop, lit<}
use native.Mathlib.Omega.{arith}
use Rattle.std.proofs.Math.Path.{◌≡◌, refl, ap}
use Rattle.std.specs.Prelude.{Option, Some, None, Bool, cond, take, get_or, eqb}
use Rattle.std.proofs.Math.Bool.{true, false, and-true, and-false, false≢true}
use mathlib.Core.List.{List, [], ◌∷◌}
use Rattle.std.proofs.Math.ListN.{length, drop, length-drop}
use borrow.Author.Tests.{le-leb, lt-leb, lt-ltb, le-ltb, eq-eqb, ne_eqb, eqb-true}
use Rattle.facts.specs.Lists.{every}
use Rattle.facts.specs.Numbers.{not_above}
use Rattle.lines.specs.Lines.{cut, longer, value_after, value, is_within, is_number}
use Rattle.lines.specs.Messages.{is_long}
use Rattle.numbers.specs.Numbers.{word, digits_after, word_of, ending_at, word_at, word_end, within_at, long_at, number_at}
use Rattle.numbers.specs.Numbers.{leading, leading_of, leading_in, count_of, count_in}

-- ---- digits

-- a value does not fall as digits follow it
value_grows : (n : ℕ) (t : List ℕ) → n ≤ value_after n t
unfolding value_after
value_grows n [] = omega arith
value_grows n (d ∷ t) = omega (arith, value_grows (10 * n + (d - 48)) t)

-- a value that is too large stays so
pub digits_over : (most n : ℕ) (t : List ℕ) → most < n → digits_after most n t ≡ None
unfolding digits_after
digits_over most n t h = rw (lt-leb (value_after n t) most (omega (arith, value_grows n t)), and-false)

-- at a position of a word: past its end, at a byte below `0`, at one above `9`, at a digit
module _ (most : ℕ) (w : List ℕ) (i n : ℕ) where
  pub digits_end : length w ≤ i → n ≤ most → digits_after most n (drop i w) ≡ Some n
  unfolding digits_after value_after
  digits_end h k = rw (drop_of_length-le w h, le-leb n most k)

  pub digits_below : i < length w → get_or w i 0 < 48 → digits_after most n (drop i w) ≡ None
  unfolding digits_after
  digits_below h k = rw (drop-cons w i 0 h, lt-leb 48 (get_or w i 0) k)

  pub digits_above : i < length w → 57 < get_or w i 0 → digits_after most n (drop i w) ≡ None
  unfolding digits_after
  digits_above h k = rw (drop-cons w i 0 h, lt-leb (get_or w i 0) 57 k, and-false)

  pub digits_more : i < length w → 48 ≤ get_or w i 0 → get_or w i 0 ≤ 57 → digits_after most n (drop i w) ≡ digits_after most (10 * n + (get_or w i 0 - 48)) (drop (i + 1) w)
  unfolding digits_after value_after
  digits_more h k l = rw (drop-cons w i 0 h, le-leb 48 (get_or w i 0) k, le-leb (get_or w i 0) 57 l, add-one)

-- ---- words

-- at a position of a line: past its end, at a space, at another byte
module _ (l : List ℕ) (i : ℕ) where
  pub word_end_lem : length l ≤ i → word_at l i ≡ []
  unfolding word
  word_end_lem h = rw (drop_of_length-le l h)

  pub word_space : i < length l → get_or l i 0 ≡ 32 → word_at l i ≡ []
  unfolding word
  word_space h k = rw (drop-cons l i 0 h, eq-eqb (get_or l i 0) 32 k)

  pub word_more : i < length l → (get_or l i 0 ≡ 32 → ⊥) → word_end l i ≡ word_end l (i + 1)
  unfolding word
  word_more h k = rw (drop-cons l i 0 h, ne_eqb (get_or l i 0) 32 k, ap (λ (n : ℕ). drop n l) (add-one i)) (omega arith)

-- it is the first bytes of its text
word_taken : (t : List ℕ) → take (length (word t)) t ≡ word t
unfolding word
word_taken [] = refl
word_taken (b ∷ t) = pick (eqb b 32) (word_taken t)
  where
    pick : (e : Bool) → take (length (word t)) t ≡ word t → take (length (cond e [] (b ∷ word t))) (b ∷ t) ≡ cond e [] (b ∷ word t)
    pick true h = refl
    pick false h = ap (λ (l : List ℕ). b ∷ l) h

-- a word is no longer than its text
word_length : (t : List ℕ) → length (word t) ≤ length t
word_length t = omega (arith, ap length (word_taken t) ∙ refl, length-take (length (word t)) t)

-- it ends at a space or at its text's end
word_stops : (t : List ℕ) → length (word t) < length t → get_or t (length (word t)) 0 ≡ 32
unfolding word
word_stops [] h = absurd (omega arith)
word_stops (b ∷ t) h = pick (word_stops t) (eqb b 32) refl h
  where
    pick : (length (word t) < length t → get_or t (length (word t)) 0 ≡ 32) → (e : Bool) → eqb b 32 ≡ e
        → length (cond e [] (b ∷ word t)) < length (b ∷ t) → get_or (b ∷ t) (length (cond e [] (b ∷ word t))) 0 ≡ 32
    pick later true e k = eqb-true b 32 e
    pick later false e k = later (omega (arith, k))

-- what a word is: empty, too long, with a leading zero, and of any other length as its digits say
module _ (digits most : ℕ) (w : List ℕ) where
  pub word_none : length w < 1 → word_of digits most w ≡ None
  unfolding word_of is_within
  word_none h = rw (lt-leb 1 (length w) h, and-false)

  pub word_many : digits < length w → word_of digits most w ≡ None
  unfolding word_of is_within
  word_many h = rw (le-leb 1 (length w) (omega arith), lt-leb (length w) digits h, and-false)

  pub word_zero : 1 < length w → get_or w 0 0 ≡ 48 → word_of digits most w ≡ None
  unfolding word_of is_within
  word_zero h e = rw (lt-ltb 1 (length w) h, eq-eqb (get_or w 0 0) 48 e, and-false)

  pub word_one : length w ≡ 1 → length w ≤ digits → word_of digits most w ≡ digits_after most 0 w
  unfolding word_of is_within digits_after
  word_one e k = rw (le-leb 1 (length w) (omega arith), le-leb (length w) digits k, le-ltb 1 (length w) (omega arith)) (simp and-true)

  pub word_digits : 1 < length w → length w ≤ digits → (get_or w 0 0 ≡ 48 → ⊥) → word_of digits most w ≡ digits_after most 0 w
  unfolding word_of is_within digits_after
  word_digits h k n =
      rw (le-leb 1 (length w) (omega arith), le-leb (length w) digits k, lt-ltb 1 (length w) h, ne_eqb (get_or w 0 0) 48 n) (simp and-true)

  -- a number has a digit, and is at most `most`
  within_some : is_within digits most w ≡ true → 1 ≤ length w
  unfolding is_within
  within_some e = not_above (λ (h : length w < 1). false≢true (rw (lt-leb 1 (length w) h, and-false) at e))

  within_most : is_within digits most w ≡ true → value w ≤ most
  unfolding is_within
  within_most e = not_above (λ (h : most < value w). false≢true (rw (lt-leb (value w) most h, and-false) at e))

-- the number at a position is what the bytes up to the word's end say; past the line's end there is none
module _ (digits most : ℕ) (line : List ℕ) (at end : ℕ) (ends : end ≡ word_end line at) where
  pub number_past : length line < end → within_at digits most line at ≡ None
  unfolding within_at
  number_past h =
      let past : length line ≤ at = omega (arith, word_length (drop at line), length-drop at line) in
      rw (word_end_lem line at past, word_none digits most [] (lit< tt))

  pub number_within : within_at digits most line at ≡ ending_at end (word_of digits most (take (end - at) (drop at line)))
  unfolding within_at
  number_within =
      let count : end - at ≡ length (word_at line at) = omega arith in
      rw (count, word_taken (drop at line), ends)

-- ---- the numbers of a text

-- the pieces but the first
abbrev pub others : List (List ℕ) → List (List ℕ)
others [] = []
others (piece ∷ pieces) = pieces

-- the words after a text's first
abbrev pub words_after : List ℕ → List (List ℕ)
words_after text = others (cut 32 (drop (length (word text)) text))

-- the pieces of a text are its word and those after it
pub cut_word : (t : List ℕ) → cut 32 t ≡ word t ∷ words_after t
unfolding cut word
cut_word [] = refl
cut_word (b ∷ t) = pick (eqb b 32) refl (cut_word t)
  where
    pick : (e : Bool) → eqb b 32 ≡ e → cut 32 t ≡ word t ∷ words_after t → cut 32 (b ∷ t) ≡ word (b ∷ t) ∷ words_after (b ∷ t)
    pick true e h = simp e
    pick false e h = simp e (ap (longer b) h)

-- what follows a word starts with a space or is empty
abbrev AfterWord : List ℕ → Type 0
AfterWord t = cut 32 (drop (length (word t)) t) ≡ [] ∷ words_after t

cut_after : (t : List ℕ) → AfterWord t
unfolding cut word
cut_after [] = refl
cut_after (b ∷ t) = pick (eqb b 32) refl (cut_after t)
  where
    pick : (e : Bool) → eqb b 32 ≡ e → AfterWord t → AfterWord (b ∷ t)
    pick true e h = simp e
    pick false e h = simp e h

-- what a number at a position says of the word there
module _ (digits most : ℕ) (line : List ℕ) (at : ℕ) where
  pub record Found (n end : ℕ) : Type 0 where
    pub number : is_within digits most (word_at line at) ≡ true
    pub its : n ≡ value (word_at line at)
    pub small : n ≤ most
    pub ends : end ≡ word_end line at
    pub within : end ≤ length line
    pub stops : end < length line → get_or line end 0 ≡ 32

  -- where the word is a number
  found_word : (n end : ℕ) → is_within digits most (word_at line at) ≡ true → n ≡ value (word_at line at) → end ≡ word_end line at → Found n end
  found_word n end number its ends =
      let w : List ℕ = word_at line at in
      let long = length-drop at line in
      record {
        number = number;
        its = its;
        small = omega (arith, its, within_most digits most w number);
        ends = ends;
        within = omega (arith, ends, word_length (drop at line), long, within_some digits most w number);
        stops = λ (h : end < length line).
            ap (λ (k : ℕ). get_or line k 0) ends
            ∙ sym (get_or-drop at line (length w) 0)
            ∙ word_stops (drop at line) (omega (arith, ends, long, h));
      }

  pub within_found : (n end : ℕ) → within_at digits most line at ≡ Some (n, end) → Found n end
  unfolding within_at word_of
  within_found n end = pick (is_within digits most (word_at line at)) refl
    where
      pick : (e : Bool) → is_within digits most (word_at line at) ≡ e → ending_at (word_end line at) (cond e (Some (value (word_at line at))) None) ≡ Some (n, end)
          → Found n end
      pick true e h =
          let both : ◌≡◌ {A = ℕ × ℕ} (n, end) (value (word_at line at), word_end line at) = cc in
          found_word n end e (ap (λ (p : ℕ × ℕ). p.0) both) (ap (λ (p : ℕ × ℕ). p.1) both)
      pick false e h = let z : ◌≡◌ {A = ℕ} 0 1 = cc in absurd (omega arith)

  pub within_missed : within_at digits most line at ≡ None → is_within digits most (word_at line at) ≡ false
  unfolding within_at word_of
  within_missed = pick (is_within digits most (word_at line at))
    where
      pick : (e : Bool) → ending_at (word_end line at) (cond e (Some (value (word_at line at))) None) ≡ None → e ≡ false
      pick true h = let z : ◌≡◌ {A = ℕ} 0 1 = cc in absurd (omega arith)
      pick false h = refl

module _ (line : List ℕ) (at : ℕ) where
  pub number_short : {x : Option (ℕ × ℕ)} → within_at 10 4294967295 line at ≡ x → number_at line at ≡ x
  number_short e = e

  pub found : (n end : ℕ) → number_at line at ≡ Some (n, end) → Found 10 4294967295 line at n end
  found n end m = within_found 10 4294967295 line at n end m

  pub missed : number_at line at ≡ None → is_number (word_at line at) ≡ false
  missed m = within_missed 10 4294967295 line at m

  pub long_found : (n end : ℕ) → long_at line at ≡ Some (n, end) → Found 20 18446744073709551615 line at n end
  long_found n end m = within_found 20 18446744073709551615 line at n end m

  pub long_missed : long_at line at ≡ None → is_long (word_at line at) ≡ false
  long_missed m = within_missed 20 18446744073709551615 line at m

  -- the pieces from a number's end on: none before the first space, then the words after it
  pub cut_found : (n end : ℕ) → number_at line at ≡ Some (n, end) → cut 32 (drop end line) ≡ [] ∷ words_after (drop at line)
  cut_found n end m =
      rw ((found n end m).ends, ← drop-drop (length (word_at line at)) at line) (cut_after (drop at line))

-- a count with k more
unfoldable pub plus : ℕ → Option ℕ → Option ℕ
plus k (Some n) = Some (k + n)
plus k None = None

-- one number more in front of words
count_cons : (w : List ℕ) (words : List (List ℕ)) → is_number w ≡ true → count_of ([] ∷ w ∷ words) ≡ plus 1 (count_of ([] ∷ words))
unfolding plus
count_cons w words e = rw e (pick (every is_number words))
  where
    pick : (b : Bool) → cond b (Some (suc (length words))) None ≡ plus 1 (cond b (Some (length words)) None)
    pick true = ap Some (omega arith)
    pick false = refl

leading_cons : (w : List ℕ) (words : List (List ℕ)) (n : ℕ) → is_number w ≡ true → n ≡ value w → leading_of ([] ∷ w ∷ words) ≡ n ∷ leading_of ([] ∷ words)
unfolding leading
leading_cons w words n e v = rw (e, v)

-- at a position of a line: past its end, at a byte that is no space, at a word that is no number, at a number
module _ (line : List ℕ) (i : ℕ) where
  -- how many numbers stand from it on, and the first of them
  abbrev Reads : Option ℕ → List ℕ → Type 0
  Reads count values = (count_in (drop i line) ≡ count) × (leading_in (drop i line) ≡ values)

  pub numbers_end : length line ≤ i → Reads (Some 0) []
  unfolding count_in leading_in cut leading
  numbers_end h = rw (drop_of_length-le line h) (refl, refl)

  pub numbers_other : i < length line → (get_or line i 0 ≡ 32 → ⊥) → Reads None []
  unfolding count_in leading_in cut
  numbers_other h k = rw (drop-cons line i 0 h, ne_eqb (get_or line i 0) 32 k, cut_word (drop (suc i) line)) (refl, refl)

  module _ (h : i < length line) (k : get_or line i 0 ≡ 32) where
    -- the pieces from a space on: the word after the space, and those after it
    pieces : cut 32 (drop i line) ≡ [] ∷ word_at line (i + 1) ∷ words_after (drop (i + 1) line)
    unfolding cut
    pieces =
        rw (drop-cons line i 0 h, eq-eqb (get_or line i 0) 32 k, ← ap (λ (n : ℕ). drop n line) (add-one i))
        (ap (λ (ps : List (List ℕ)). [] ∷ ps) (cut_word (drop (i + 1) line)))

    pub numbers_bad : number_at line (i + 1) ≡ None → Reads None []
    unfolding count_in leading_in leading
    numbers_bad m = rw (pieces, missed line (i + 1) m) (refl, refl)

    pub numbers_more : (n end : ℕ) → number_at line (i + 1) ≡ Some (n, end) → Reads (plus 1 (count_in (drop end line))) (n ∷ leading_in (drop end line))
    unfolding count_in leading_in
    numbers_more n end m =
        let w : List ℕ = word_at line (i + 1) in
        let words : List (List ℕ) = words_after (drop (i + 1) line) in
        let seen = found line (i + 1) n end m in
        rw (pieces, cut_found line (i + 1) n end m) (count_cons w words seen.number, leading_cons w words n seen.number seen.its)
