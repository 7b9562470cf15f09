-- The laws of the levels' sizes, each for the level as a parameter: a test that the checker computes over all levels, turned into the rule at
-- each level. Assumes nothing.
use Rattle.std.specs.Prelude.{ℕ, suc, ◌+◌, ◌-◌, ◌*◌, ◌/◌, ◌%◌, ◌^◌, ◌≤◌, ◌<◌, ◌≡◌, refl, ◌⊎◌, Bool, cond, T, ltb}
use Rattle.std.proofs.Common.{arith, ◌∙◌, inl, inr, lt-ltb, le-ltb}
use Rattle.std.proofs.Math.Dec.{leb, eqb, leb→le, eqb→eq}
use Rattle.std.proofs.Math.ListN.{get_or-eq_default}
use Rattle.facts.specs.Lists.{In, Rising, each_in, count_each, count_rising, count_all, every, every_in}
use Rattle.ground.specs.Levels.{second, minute, degree, coarsest_level, finest_level, IsLevel, levels_before, levels}
use Rattle.ground.specs.Levels.{sizes, smallest_size, size_of, minute_level}

-- The levels in turn are the levels
pub levels_are : (level : ℕ) → In level levels → IsLevel level
levels_are level m =
    let count : ℕ = suc finest_level - coarsest_level in
    let h = each_in (λ a. (coarsest_level ≤ a) × (a < coarsest_level + count)) levels level (count_each count coarsest_level) m in
    record { coarsest = h.0; finest = omega arith }

-- each of them
pub levels_all : (level : ℕ) → IsLevel level → In level levels
levels_all level l = count_all (suc finest_level - coarsest_level) coarsest_level level l.coarsest (omega (arith, l.finest))

-- and rising
pub levels_rising : Rising levels
levels_rising = count_rising (suc finest_level - coarsest_level) coarsest_level

-- What a test says of a level, where each one before an end passes it
pub at_level : (test : ℕ → Bool) (end : ℕ) → T (every test (levels_before end)) → (level : ℕ) → coarsest_level ≤ level → level < end → T (test level)
at_level test end t level low high =
    every_in test (levels_before end) t level (count_all (end - coarsest_level) coarsest_level level low (omega arith))

-- and where every level does
at_each : (test : ℕ → Bool) → T (every test levels) → (level : ℕ) → IsLevel level → T (test level)
at_each test t level l = every_in test levels t level (levels_all level l)

-- What is no level has no size
pub size_none : (level : ℕ) → (level < coarsest_level) ⊎ (finest_level < level) → size_of level ≡ 0
unfolding size_of
size_none level (inl h) = rw (lt-ltb level coarsest_level h)
size_none level (inr h) =
    rw (le-ltb level coarsest_level (omega arith)) (get_or-eq_default sizes 0 {n = level - coarsest_level} (omega arith))

-- The coarsest level's is a degree
pub size_coarsest : size_of coarsest_level ≡ degree
unfolding size_of
size_coarsest = refl

-- and the finest's is the smallest
pub size_finest : size_of finest_level ≡ smallest_size
unfolding size_of
size_finest = refl

-- A level's size from degree, minute and second by halving (document 02, request 4): a degree at the coarsest; after it 64 minutes, and
-- after the level of a minute 64 seconds, each halved once for every level
abbrev by_halving : ℕ → ℕ
by_halving level =
    cond (ltb minute_level level) (64 * second / 2 ^ (level - minute_level))
    (cond (ltb coarsest_level level) (64 * minute / 2 ^ (level - coarsest_level)) degree)

module _ (level : ℕ) (l : IsLevel level) where
  -- It is the size in the table
  size_halved : size_of level ≡ by_halving level
  unfolding size_of
  size_halved = eqb→eq (size_of level) (by_halving level) (at_each (λ n. eqb (size_of n) (by_halving n)) tt level l)

  -- which is so many halves of 64 seconds
  pub size_seconds : minute_level < level → size_of level ≡ 64 * second / 2 ^ (level - minute_level)
  size_seconds h = size_halved ∙ rw (lt-ltb minute_level level h)

  -- or of 64 minutes
  pub size_minutes : coarsest_level < level → level ≤ minute_level → size_of level ≡ 64 * minute / 2 ^ (level - coarsest_level)
  size_minutes h k = size_halved ∙ rw (le-ltb minute_level level k, lt-ltb coarsest_level level h)

  -- A size is at least the smallest and at most a degree
  pub size_least : smallest_size ≤ size_of level
  unfolding size_of
  size_least = leb→le smallest_size (size_of level) (at_each (λ n. leb smallest_size (size_of n)) tt level l)

  pub size_most : size_of level ≤ degree
  unfolding size_of
  size_most = leb→le (size_of level) degree (at_each (λ n. leb (size_of n) degree) tt level l)

  -- and a multiple of the smallest
  pub size_whole : size_of level % smallest_size ≡ 0
  unfolding size_of
  size_whole = eqb→eq (size_of level % smallest_size) 0 (at_each (λ n. eqb (size_of n % smallest_size) 0) tt level l)

-- A level's size is at least 15/8 of the next finer one's
pub size_step : (level : ℕ) → coarsest_level ≤ level → level < finest_level → size_of (suc level) * 15 ≤ size_of level * 8
unfolding size_of
size_step level low high =
    leb→le (size_of (suc level) * 15) (size_of level * 8)
    (at_level (λ n. leb (size_of (suc n) * 15) (size_of n * 8)) finest_level tt level low high)
