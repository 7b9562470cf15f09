-- The laws of low sides, for the level as a parameter: the low side of an angle, the steps from one low side to the next, and that none
-- lies between. Assumes nothing.
use Prim.Native.Nat.{ℕ, suc, ◌+◌, ◌*◌, ◌/◌, ◌%◌, ◌≤◌, ◌<◌, min}
use Rattle.std.proofs.Common.{div-add-mod', mod-lt, eq-or-lt_of_le, le_of_suc-le-suc, arith, ◌∙◌, inl, inr, leb-true, leb-false}
use Rattle.std.proofs.Math.Nat.{mul-le-mul_right, lt_of_mul-lt-mul_right}
use Rattle.std.specs.Prelude.{◌≡◌, ◌⊎◌, Bool, true, false, leb}
use Rattle.std.proofs.Math.Path.{refl, ap}
use Rattle.std.proofs.Math.Arith.{digits_div, digits_mod}
use Rattle.ground.specs.Levels.{degree, IsLevel, size_of}
use Rattle.ground.proofs.LevelsLaws.{size_least}
use Rattle.ground.specs.Cells.{afresh, start_of, low_side, high_side}
use Rattle.ground.proofs.CellsLaws.{afresh_so}

-- An angle measured by its starts afresh, its whole sizes since, and a rest
pub record Measured (level a q k t : ℕ) : Type 0 where
  pub sum : a ≡ q * afresh level + (k * size_of level + t)
  pub rest : t < size_of level
  pub since : k * size_of level + t < afresh level

module _ {level a q k t : ℕ} (h : Measured level a q k t) where
  -- Its start and its low side leave out the rest
  pub start_is : start_of level a ≡ q * afresh level
  start_is =
      let d : a / afresh level ≡ q = ap (λ (n : ℕ). n / afresh level) h.sum ∙ digits_div q h.since in
      cc

  low_is : low_side level a ≡ q * afresh level + k * size_of level
  unfolding low_side
  low_is =
      let d : a / afresh level ≡ q = ap (λ (n : ℕ). n / afresh level) h.sum ∙ digits_div q h.since in
      let m : a % afresh level ≡ k * size_of level + t = ap (λ (n : ℕ). n % afresh level) h.sum ∙ digits_mod q h.since in
      let n : a % afresh level / size_of level ≡ k = ap (λ (n : ℕ). n / size_of level) m ∙ digits_div k h.rest in
      cc

module _ (level : ℕ) (l : IsLevel level) where
  -- A size and a start afresh are some length
  pub some_size : 0 < size_of level
  some_size = omega (arith, size_least level l)

  pub some_afresh : 0 < afresh level
  some_afresh = afresh_so (λ (n : ℕ). 0 < n) (omega arith) (omega arith) level

  -- Each angle is so measured
  measured : (a : ℕ) → Measured level a (a / afresh level) (a % afresh level / size_of level) (a % afresh level % size_of level)
  measured a =
      let whole = div-add-mod' a (afresh level) in
      let part = div-add-mod' (a % afresh level) (size_of level) in
      let less = mod-lt a some_afresh in
      record { sum = omega arith; rest = mod-lt (a % afresh level) some_size; since = omega arith }

  -- and a low side with no rest
  pub side_measured : (a : ℕ) → low_side level a ≡ a → Measured level a (a / afresh level) (a % afresh level / size_of level) 0
  unfolding low_side
  side_measured a is = let h = measured a in record { sum = omega arith; rest = some_size; since = omega (arith, h.since) }

  -- What is measured with no rest is a low side
  pub measured_side : {a : ℕ} (q k : ℕ) → Measured level a q k 0 → low_side level a ≡ a
  measured_side q k h = omega (arith, low_is h, h.sum)

  -- The low side of an angle is measured by the same starts and sizes, with no rest
  low_measured : (a : ℕ) → Measured level (low_side level a) (a / afresh level) (a % afresh level / size_of level) 0
  low_measured a = let h = measured a in record { sum = omega (arith, low_is h); rest = some_size; since = omega (arith, h.since) }

  -- The low side of an angle is at most the angle
  pub low_most : (a : ℕ) → low_side level a ≤ a
  low_most a = let h = measured a in omega (arith, low_is h, h.sum)

  -- and is a low side
  pub low_low : (a : ℕ) → low_side level (low_side level a) ≡ low_side level a
  low_low a = measured_side (a / afresh level) (a % afresh level / size_of level) (low_measured a)

  -- An angle is below the high side of its low side
  pub below_high : (a : ℕ) → a < high_side level (low_side level a)
  unfolding high_side
  below_high a = let h = measured a in omega (arith, start_is (low_measured a), low_is h, h.sum, h.rest, h.since)

  -- The high side of a low side is a low side
  pub high_low : (a : ℕ) → low_side level a ≡ a → low_side level (high_side level a) ≡ high_side level a
  unfolding high_side
  high_low a is = at (leb (suc k * size_of level + 1) (afresh level)) refl
    where
      q : ℕ
      q = a / afresh level

      k : ℕ
      k = a % afresh level / size_of level

      at : (b : Bool) → leb (suc k * size_of level + 1) (afresh level) ≡ b
          → low_side level (min (a + size_of level) (start_of level a + afresh level)) ≡ min (a + size_of level) (start_of level a + afresh level)
      at true e =
          let h = side_measured a is in
          let m = leb-true (suc k * size_of level + 1) (afresh level) e in
          measured_side q (suc k) (record { sum = omega (arith, h.sum); rest = some_size; since = omega arith })
      at false e =
          let h = side_measured a is in
          let m = leb-false (suc k * size_of level + 1) (afresh level) e in
          measured_side (suc q) 0 (record { sum = omega (arith, h.sum); rest = some_size; since = omega (arith, some_afresh) })

  -- No low side lies between a low side and its high side
  pub none_between : (a b : ℕ) → low_side level a ≡ a → low_side level b ≡ b → a < b → high_side level a ≤ b
  unfolding high_side
  none_between a b is js less =
      let h = side_measured a is in
      let k = side_measured b js in
      let fewer : a / afresh level < suc (b / afresh level) =
      lt_of_mul-lt-mul_right (afresh level) (omega (arith, h.sum, k.sum, k.since)) in
      at (eq-or-lt_of_le (le_of_suc-le-suc fewer))
    where
      at : (a / afresh level ≡ b / afresh level) ⊎ (a / afresh level < b / afresh level)
          → min (a + size_of level) (start_of level a + afresh level) ≤ b
      at (inl e) =
          let h = side_measured a is in
          let k = side_measured b js in
          let same : start_of level a ≡ start_of level b = ap (λ (n : ℕ). n * afresh level) e in
          let fewer : a % afresh level / size_of level < b % afresh level / size_of level =
          lt_of_mul-lt-mul_right (size_of level) (omega (arith, h.sum, k.sum)) in
          omega (arith, h.sum, k.sum, mul-le-mul_right (size_of level) fewer)
      at (inr m) = omega (arith, (side_measured b js).sum, mul-le-mul_right (afresh level) m)

  -- A whole number of degrees is a low side
  pub degrees_low : (n : ℕ) → low_side level (n * degree) ≡ n * degree
  degrees_low n =
      afresh_so (λ (m : ℕ). m ≡ afresh level → low_side level (n * degree) ≡ n * degree)
      (λ e. by n (ap (λ (m : ℕ). n * m) e)) (λ e. by (n * 60) (omega (arith, ap (λ (m : ℕ). n * 60 * m) e))) level refl
    where
      by : (q : ℕ) → n * degree ≡ q * afresh level → low_side level (n * degree) ≡ n * degree
      by q e = measured_side q 0 (record { sum = omega arith; rest = some_size; since = omega (arith, some_afresh) })

  -- A cell that starts before an end ends at or before a whole number of degrees that the end does not pass
  pub side_end : {a end : ℕ} (n : ℕ) → low_side level a ≡ a → a < end → end ≤ n * degree → high_side level a ≤ n * degree
  side_end {a} n is less most = none_between a (n * degree) is (degrees_low n) (omega arith)
