-- The laws of the scale (document 01, "Scale"), each for the level as a parameter: it is a level, and the finest one whose nominal size
-- times 32 is greater than the span; one level coarser, 18 sizes reach as far. Assumes nothing.
use Rattle.std.specs.Prelude.{ℕ, zero, suc, ◌+◌, ◌-◌, ◌*◌, ◌≤◌, ◌<◌, ◌≡◌, refl, ◌⊎◌, Bool, true, false, cond, ltb}
use Rattle.std.proofs.Common.{arith, sym, inl, inr, ltb-true, ltb-false}
use Rattle.std.proofs.Math.Path.{subst}
use Rattle.ground.specs.Levels.{degree, coarsest_level, IsLevel, size_of}
use Rattle.ground.proofs.LevelsLaws.{size_step}
use Rattle.facts.specs.Numbers.{either_way}
use Rattle.code.specs.Code.{finest_scale}
use Rattle.unit.specs.Unit.{scale_from, scale_of, coarser}

module _ (span : ℕ) where
  -- A scale from so many levels after the coarsest is one of them
  scale_from_lem : (n : ℕ) → (coarsest_level ≤ scale_from span n) × (scale_from span n ≤ coarsest_level + n)
  scale_from_lem zero = (omega arith, omega arith)
  scale_from_lem (suc n) = at (ltb span (size_of (coarsest_level + suc n) * 32)) (scale_from_lem n)
    where
      at : (b : Bool) → (coarsest_level ≤ scale_from span n) × (scale_from span n ≤ coarsest_level + n)
          → let s : ℕ = cond b (coarsest_level + suc n) (scale_from span n) in (coarsest_level ≤ s) × (s ≤ coarsest_level + suc n)
      at true t = (omega arith, omega arith)
      at false t = (omega arith, omega arith)

  -- Its size times 32 is greater than a span that the coarsest's is greater than
  scale_greater : (n : ℕ) → span < size_of coarsest_level * 32 → span < size_of (scale_from span n) * 32
  scale_greater zero h = h
  scale_greater (suc n) h = at (ltb span (size_of (coarsest_level + suc n) * 32)) refl (scale_greater n h)
    where
      at : (b : Bool) → ltb span (size_of (coarsest_level + suc n) * 32) ≡ b → span < size_of (scale_from span n) * 32
          → span < size_of (cond b (coarsest_level + suc n) (scale_from span n)) * 32
      at true e k = ltb-true span (size_of (coarsest_level + suc n) * 32) e
      at false e k = k

  -- and no finer level's is
  scale_finest : (n l : ℕ) → scale_from span n < l → l ≤ coarsest_level + n → size_of l * 32 ≤ span
  scale_finest zero l h k = let none : ⊥ = omega arith in absurd none
  scale_finest (suc n) l h k =
      at (ltb span (size_of (coarsest_level + suc n) * 32)) refl h (scale_finest n l) (either_way l (coarsest_level + n))
    where
      at : (b : Bool) → ltb span (size_of (coarsest_level + suc n) * 32) ≡ b → cond b (coarsest_level + suc n) (scale_from span n) < l
          → (scale_from span n < l → l ≤ coarsest_level + n → size_of l * 32 ≤ span) → (l ≤ coarsest_level + n) ⊎ (coarsest_level + n < l)
          → size_of l * 32 ≤ span
      at true e g ih w = let none : ⊥ = omega arith in absurd none
      at false e g ih (inl w) = ih g w
      at false e g ih (inr w) =
          let same : coarsest_level + suc n ≡ l = omega arith in
          subst (λ (m : ℕ). size_of m * 32 ≤ span) same (ltb-false span (size_of (coarsest_level + suc n) * 32) e)

  -- The scale is from 9 to 27
  scale_most : (coarsest_level ≤ scale_of span) × (scale_of span ≤ finest_scale)
  unfolding scale_of
  scale_most = scale_from_lem (finest_scale - coarsest_level)

  -- so it is a level
  pub scale_level : IsLevel (scale_of span)
  scale_level = record { coarsest = scale_most.0; finest = omega (arith, scale_most) }

  -- The nominal size of a finer level, times 32, is at most the span
  pub finer_most : (l : ℕ) → scale_of span < l → l ≤ finest_scale → size_of l * 32 ≤ span
  unfolding scale_of
  finer_most = scale_finest (finest_scale - coarsest_level)

-- One level coarser is a level
pub coarser_level : {level : ℕ} → IsLevel level → IsLevel (coarser level)
coarser_level l = record { coarsest = omega arith; finest = omega (arith, l.coarsest, l.finest) }

module _ (span : ℕ) (small : span ≤ degree) where
  -- The nominal size of the scale of a span of at most a degree, times 32, is greater than the span
  pub span_below : span < size_of (scale_of span) * 32
  unfolding scale_of size_of
  span_below = scale_greater span (finest_scale - coarsest_level) (omega arith)

  -- and such a scale is a level from 14 to 27
  pub scale_written : (14 ≤ scale_of span) × (scale_of span ≤ finest_scale)
  unfolding size_of
  scale_written = at (either_way 14 (scale_of span))
    where
      at : (14 ≤ scale_of span) ⊎ (scale_of span < 14) → (14 ≤ scale_of span) × (scale_of span ≤ finest_scale)
      at (inl h) = (h, (scale_most span).1)
      at (inr h) = let none : ⊥ = omega (arith, finer_most span 14 h (omega arith)) in absurd none

  -- At 14, 30 sizes reach a span of at most a degree
  pub reach_14 : scale_of span ≡ 14 → span ≤ 30 * size_of (scale_of span)
  unfolding size_of
  reach_14 e = subst (λ (level : ℕ). span ≤ 30 * size_of level) (sym e) small

  -- and at a finer scale, 18 sizes of one level coarser do
  pub reach_coarser : 14 < scale_of span → span ≤ 18 * size_of (coarser (scale_of span))
  reach_coarser h =
      let level : ℕ = scale_of span - 1 in
      let next : suc level ≡ scale_of span = omega arith in
      let same : level ≡ coarser (scale_of span) = omega arith in
      let step = size_step level (omega arith) (omega (arith, (scale_level span).finest)) in
      let wider : size_of (scale_of span) * 15 ≤ size_of (coarser (scale_of span)) * 8 =
      subst (λ (l : ℕ). size_of l * 15 ≤ size_of (coarser (scale_of span)) * 8) next (subst (λ (l : ℕ). size_of (suc level) * 15 ≤ size_of l * 8) same step) in
      omega (arith, span_below, wider)
