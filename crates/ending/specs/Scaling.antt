-- A loop that tries the levels for the scale, from the finest that one has down. Assumes nothing.
use Rattle.std.specs.Prelude.{ℕ, suc, ◌+◌, ◌-◌, ◌*◌, ◌<◌, ◌≤◌, ◌≡◌, refl, cond, ltb}
use Rattle.std.proofs.Common.{arith, ap, ◌∙◌, sym, lt-ltb, le-ltb}
use Rattle.ground.specs.Levels.{coarsest_level, IsLevel, size_of}
use Rattle.code.specs.Code.{finest_scale}
use Rattle.unit.specs.Unit.{scale_from, scale_of}

-- Such a loop at a level: the level is one, and no finer one is the scale
pub record Tried (span level : ℕ) : Type 0 where
  pub is : IsLevel level
  pub scale : scale_of span ≡ scale_from span (level - coarsest_level)

-- The first tried is the finest that a scale has
pub scale_begin : (span : ℕ) → Tried span finest_scale
unfolding scale_of
scale_begin span = record { is = record { coarsest = omega arith; finest = omega arith }; scale = refl }

module _ {span level : ℕ} (t : Tried span level) where
  -- A level that is not the coarsest is tried, and then those before it
  scale_next : coarsest_level < level → scale_of span ≡ cond (ltb span (size_of level * 32)) level (scale_from span (level - 1 - coarsest_level))
  scale_next h =
      let n : ℕ = level - 1 - coarsest_level in
      let count : level - coarsest_level ≡ suc n = omega arith in
      let same : coarsest_level + suc n ≡ level = omega arith in
      t.scale ∙ ap (scale_from span) count ∙ ap (λ (l : ℕ). cond (ltb span (size_of l * 32)) l (scale_from span n)) same

  -- It is the scale where its size is great enough
  pub scale_here : coarsest_level < level → span < size_of level * 32 → level ≡ scale_of span
  scale_here h k = sym (scale_next h ∙ rw (lt-ltb span (size_of level * 32) k))

  -- and else one before it is
  pub scale_before : coarsest_level < level → size_of level * 32 ≤ span → Tried span (level - 1)
  scale_before h k = record {
    is = record { coarsest = omega arith; finest = omega (arith, t.is.finest) };
    scale = scale_next h ∙ rw (le-ltb span (size_of level * 32) k);
  }

  -- The last is the coarsest
  pub scale_end : level ≤ coarsest_level → coarsest_level ≡ scale_of span
  scale_end h =
      let none : level - coarsest_level ≡ 0 = omega arith in
      sym (t.scale ∙ ap (scale_from span) none)
