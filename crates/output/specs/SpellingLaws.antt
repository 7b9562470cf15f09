-- The laws of the decimal spelling: the fewest digits that hold a number are its spelling. Assumes nothing.
use Rattle.std.specs.Prelude.{ℕ, zero, suc, ◌-◌, ◌/◌, ◌%◌, ◌^◌, ◌≤◌, ◌<◌, ◌≡◌}
use Rattle.std.proofs.Common.{le_trans, not-le_of_lt, pow-suc, mod-eq_of_lt, mod-lt, div-lt_iff_lt-mul, le-div_iff_mul-le, arith, lit<, lt-ltb, le-ltb}
use Rattle.std.proofs.Math.Nat.{pow-le-pow_right, suc-sub-suc, sub-zero, one-le-pow}
use Rattle.io.specs.Digits.{last_digits, IsDigitCount}
use Rattle.facts.specs.Numbers.{not_above}
use Rattle.lines.specs.Lines.{spelling}

-- a number below 10 ^ 20 has 20 digits at most
pub few_digits : (k n : ℕ) → n < 10 ^ 20 → IsDigitCount 10 1 n k → k ≤ 20
few_digits k n h few = not_above many
  where
    many : 20 < k → ⊥
    many m =
        let below : 20 ≤ k - 1 = omega arith in
        let long : 10 ^ 20 ≤ 10 ^ (k - 1) = pow-le-pow_right (lit< tt) below in
        not-le_of_lt h (le_trans long (few.2 (omega arith)))

-- the fewest decimal digits that hold a number are its spelling
pub spelled : (k n count : ℕ) → k ≤ count → IsDigitCount 10 1 n k → last_digits 10 k n ≡ spelling count n
unfolding spelling
spelled k n zero h few = absurd (omega arith)
spelled zero n (suc count) h few = absurd (omega arith)
spelled (suc zero) n (suc count) h few =
    let small : n < 10 = few.1 in
    rw (mod-eq_of_lt small, lt-ltb n 10 small)
spelled (suc (suc j)) n (suc count) h few =
    let least : 10 ^ suc j ≤ n = rw (suc-sub-suc, sub-zero) at (few.2 (omega arith)) in
    let ten : 10 ≤ n = omega (arith, one-le-pow j 10 (lit< tt), pow-suc 10 j) in
    let shorter : n / 10 < 10 ^ suc j = (div-lt_iff_lt-mul (lit< tt)).1 (rw pow-suc at few.1) in
    let enough : 10 ^ j ≤ n / 10 = (le-div_iff_mul-le (lit< tt)).1 (rw pow-suc at least) in
    let fewer : IsDigitCount 10 1 (n / 10) (suc j) = (omega arith, shorter, λ _. rw (suc-sub-suc, sub-zero) enough) in
    rw (le-ltb n 10 ten, lt-ltb (n % 10) 10 (mod-lt n (lit< tt)), spelled (suc j) (n / 10) count (omega arith) fewer)
