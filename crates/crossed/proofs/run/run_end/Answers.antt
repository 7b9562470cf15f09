-- `crossed::run::run_end` meets its contract: what is free up to each of two ends is free up to the later. Assumes nothing.
use Prim.Native.Nat.{ℕ, ◌≤◌, ◌<◌, max}
use native.Mathlib.Omega.{arith}
use mathlib.Core.Path.{◌≡◌, sym, subst}
use mathlib.Core.List.{List}
use Rattle.std.specs.Prelude.{◌⊎◌}
use Rattle.std.proofs.Common.{inl, inr}
use Rattle.facts.specs.Numbers.{either_way}
use Rattle.crossed.specs.Runs.{Free, run_free}
use Rattle.crossed.proofs.run.run_end.Goals as goal

free_later : {numbers : List ℕ} {i a b : ℕ} → Free numbers i a → Free numbers i b → Free numbers i (max a b)
free_later {numbers} {i} {a} {b} f g = at (either_way a b)
  where
    at : (a ≤ b) ⊎ (b < a) → Free numbers i (max a b)
    at (inl h) =
        let same : b ≡ max a b = omega arith in
        subst (Free numbers i) same g
    at (inr h) =
        let same : a ≡ max a b = omega arith in
        subst (Free numbers i) same f

pub returns : goal.returns
returns c =
    subst (Free c.args.numbers.now c.args.i) (sym c.max.ensures)
    (free_later (run_free _ _ _ _ c.course_end-lat_end.ensures) (run_free _ _ _ _ c.course_end-lon_end.ensures))
