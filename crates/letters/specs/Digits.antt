-- Numbers in base 32, high digit first; digits and number give each other back. Assumes nothing.
use Rattle.std.specs.Prelude.{ℕ, zero, suc, ◌+◌, ◌*◌, ◌/◌, ◌%◌, ◌^◌, ◌<◌, ◌≤◌, ◌≡◌, refl, List, [], ◌∷◌, ◌++◌, length}
use Rattle.std.proofs.Common.{add-zero, pow-suc, mul-le-mul_right, arith, ap, ap₂, ◌∙◌, append_assoc, append-nil}

-- The last n digits of a number, high first
abbrev pub digits : ℕ → ℕ → List ℕ
digits zero x = []
digits (suc n) x = digits n (x / 32) ++ (x % 32 ∷ [])

-- The number whose digits are those of x and then these
abbrev pub value_from : ℕ → List ℕ → ℕ
value_from x [] = x
value_from x (d ∷ ds) = value_from (x * 32 + d) ds

-- The number that digits make, high first
abbrev pub value_of : List ℕ → ℕ
value_of ds = value_from 0 ds

-- Each entry of a list is a digit
pub data Digits : List ℕ → Type 0 where
  none : Digits []
  more : {d : ℕ} {ds : List ℕ} → d < 32 → Digits ds → Digits (d ∷ ds)

-- Digits after digits are digits
pub digits_append : {xs ys : List ℕ} → Digits xs → Digits ys → Digits (xs ++ ys)
digits_append none s = s
digits_append (more h r) s = more h (digits_append r s)

pub digits_are : (n x : ℕ) → Digits (digits n x)
digits_are zero x = none
digits_are (suc n) x = digits_append (digits_are n (x / 32)) (more {d = x % 32} (omega arith) none)

-- One digit more
pub value_snoc : (x : ℕ) (ds : List ℕ) (d : ℕ) → value_from x (ds ++ (d ∷ [])) ≡ value_from x ds * 32 + d
value_snoc x [] d = refl
value_snoc x (e ∷ ds) d = value_snoc (x * 32 + e) ds d

-- Digits after a number are below the next number's zeros
value_below : (x : ℕ) {ds : List ℕ} → Digits ds → value_from x ds < (x + 1) * 32 ^ length ds
value_below x none = omega arith
value_below x (more {d} {ds} h r) =
    let next : (x * 32 + d + 1) * 32 ^ length ds ≤ ((x + 1) * 32) * 32 ^ length ds = mul-le-mul_right (32 ^ length ds) (omega arith) in
    rw pow-suc (omega (arith, value_below (x * 32 + d) r))

-- The digits of a number that fits them make it again, after what stands before them
pub value_digits : (n x y : ℕ) → y < 32 ^ n → value_from x (digits n y) ≡ x * 32 ^ n + y
value_digits zero x y h = omega arith
value_digits (suc n) x y h =
    let k : y < 32 ^ n * 32 = rw pow-suc at h in
    rw (value_snoc, value_digits n x (y / 32) (omega arith), pow-suc) (omega arith)

-- Digits are the digits of the number that they make, after those of what stands before them
pub digits_value : (m x : ℕ) {ds : List ℕ} → Digits ds → digits (m + length ds) (value_from x ds) ≡ digits m x ++ ds
digits_value m x none = rw (add-zero, append-nil)
digits_value m x (more {d} {ds} h r) =
    let more_places : m + suc (length ds) ≡ suc m + length ds = omega arith in
    let high : (x * 32 + d) / 32 ≡ x = omega arith in
    let low : (x * 32 + d) % 32 ≡ d = omega arith in
    ap (λ (n : ℕ). digits n (value_from (x * 32 + d) ds)) more_places
    ∙ digits_value (suc m) (x * 32 + d) r
    ∙ ap₂ (λ (q r : ℕ). (digits m q ++ (r ∷ [])) ++ ds) high low
    ∙ append_assoc (digits m x) (d ∷ []) ds

-- n digits make a number below 32 to the n
pub value_most : {ds : List ℕ} → Digits ds → value_of ds < 32 ^ length ds
value_most r = omega (arith, value_below 0 r)
