-- An alphabet is a list of letter bytes by value. Its laws hold of any alphabet whose letters are distinct. Assumes nothing.
use Rattle.std.specs.Prelude.{ℕ, zero, suc, ◌<◌, ◌≤◌, ◌≡◌, refl, Bool, true, false, cond, ◌&&◌, not, List, [], ◌∷◌, T, eqb, ltb, length, get_or}
use Rattle.std.proofs.Common.{arith, ap, eqb→eq, eq-eqb, eqb-true, lt-ltb, le-ltb}
use Rattle.std.proofs.Math.Arith.{lt_of_le-ne}
use Rattle.facts.specs.Places.{first_place, first_most}
use Rattle.facts.specs.Tests.{both_hold}

-- The value of a byte: its place in the alphabet; the alphabet's length where it is no letter
abbrev pub value_in : List ℕ → ℕ → ℕ
value_in alphabet byte = first_place (λ letter. eqb letter byte) alphabet

-- The letter of a value
abbrev pub letter_in : List ℕ → ℕ → ℕ
letter_in alphabet value = get_or alphabet value 0

-- Whether a byte is a letter
abbrev pub is_letter : List ℕ → ℕ → Bool
is_letter alphabet byte = ltb (value_in alphabet byte) (length alphabet)

-- The place of the first byte that is no letter; the text's length where each is one
abbrev pub first_other : List ℕ → List ℕ → ℕ
first_other alphabet text = first_place (λ byte. not (is_letter alphabet byte)) text

-- No letter stands in the alphabet twice
abbrev pub distinct : List ℕ → Bool
distinct [] = true
distinct (x ∷ xs) = eqb (value_in xs x) (length xs) && distinct xs

-- A byte's value is at most the alphabet's length
pub value_most : (alphabet : List ℕ) (b : ℕ) → value_in alphabet b ≤ length alphabet
value_most alphabet b = first_most (λ letter. eqb letter b) alphabet

-- A byte whose value is the alphabet's length is no letter
pub no_letter : (alphabet : List ℕ) (b : ℕ) → value_in alphabet b ≡ length alphabet → not (is_letter alphabet b) ≡ true
no_letter alphabet b e = rw (le-ltb (value_in alphabet b) (length alphabet) (omega arith))

-- Any other byte is one
pub a_letter : (alphabet : List ℕ) (b : ℕ) → (value_in alphabet b ≡ length alphabet → ⊥) → not (is_letter alphabet b) ≡ false
a_letter alphabet b n =
    rw (lt-ltb (value_in alphabet b) (length alphabet) (lt_of_le-ne (value_most alphabet b) n))

-- Each letter's value is found back
pub found_back : (alphabet : List ℕ) → T (distinct alphabet) → (v : ℕ) → v < length alphabet
    → value_in alphabet (letter_in alphabet v) ≡ v
found_back [] t v h = omega arith
found_back (x ∷ xs) t zero h = rw (eq-eqb x x refl)
found_back (x ∷ xs) t (suc v) h =
    at (eqb x (get_or xs v 0)) refl (found_back xs (both_hold (eqb (value_in xs x) (length xs)) (distinct xs) t).1 v (omega arith))
  where
    once : value_in xs x ≡ length xs
    once = eqb→eq (value_in xs x) (length xs) (both_hold (eqb (value_in xs x) (length xs)) (distinct xs) t).0

    at : (b : Bool) → eqb x (get_or xs v 0) ≡ b → value_in xs (get_or xs v 0) ≡ v
        → cond b 0 (suc (value_in xs (get_or xs v 0))) ≡ suc v
    at true e ih = omega (arith, once, ap (value_in xs) (eqb-true x (get_or xs v 0) e))
    at false e ih = ap suc ih

-- The letter of a letter's value is the letter
pub spelled_back : (alphabet : List ℕ) (b : ℕ) → value_in alphabet b < length alphabet
    → letter_in alphabet (value_in alphabet b) ≡ b
spelled_back [] b h = omega arith
spelled_back (x ∷ xs) b h = at (eqb x b) refl h (spelled_back xs b)
  where
    at : (t : Bool) → eqb x b ≡ t → cond t 0 (suc (value_in xs b)) < suc (length xs)
        → (value_in xs b < length xs → get_or xs (value_in xs b) 0 ≡ b)
        → get_or (x ∷ xs) (cond t 0 (suc (value_in xs b))) 0 ≡ b
    at true e k ih = eqb-true x b e
    at false e k ih = ih (omega arith)
