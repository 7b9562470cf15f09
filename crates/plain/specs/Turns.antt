-- Trying in turn (document 01, "What the work covers": the plain road): while nothing is found, what is still to be tried gives what the
-- whole gives. For sides of either direction, and for levels. Assumes nothing.
use Rattle.std.specs.Prelude.{ℕ, zero, suc, ◌+◌, ◌-◌, ◌*◌, ◌/◌, ◌≤◌, ◌<◌, ◌≡◌, refl, Bool, true, false, [], ◌∷◌, Option, Some, None}
use Rattle.std.proofs.Common.{arith, ap, subst, sym, ◌∙◌, lt-ltb, le-ltb}
use Rattle.ground.specs.Levels.{coarsest_level, finest_level, levels, IsLevel, smallest_size}
use Rattle.ground.specs.Cells.{low_side, high_side}
use Rattle.ground.proofs.CellsLaws.{sides_smallest}
use Rattle.ground.proofs.SidesLaws.{low_low, below_high, high_low}
use Rattle.ground.specs.declared.Cell.{Cell}
use Rattle.chosen.specs.Chosen.{sides_from, sides_over, or_else, first_among}
use Rattle.facts.specs.Lists.{count_up}

-- Below the end a side is followed by those from the next on
sides_more : (n level a end : ℕ) → a < end → sides_from (suc n) level a end ≡ a ∷ sides_from n level (high_side level a) end
sides_more n level a end less =
    ap (λ (t : Bool). elim t [ true ↦ a ∷ sides_from n level (high_side level a) end | false ↦ [] ]) (lt-ltb a end less)

-- and at the end there are none
sides_none : (n level a end : ℕ) → end ≤ a → sides_from (suc n) level a end ≡ []
sides_none n level a end most =
    ap (λ (t : Bool). elim t [ true ↦ a ∷ sides_from n level (high_side level a) end | false ↦ [] ]) (le-ltb a end most)

-- Sides from one on are still to be tried: they are enough, and give what the whole gives
pub record SidesLeft (try : ℕ → Option Cell) (level end : ℕ) (whole : Option Cell) (a : ℕ) : Type 0 where
  pub more : ℕ
  pub same : whole ≡ first_among try (sides_from (suc more) level a end)
  pub enough : end - high_side level a ≤ smallest_size * more
  pub is : low_side level a ≡ a

module _ {try : ℕ → Option Cell} {level : ℕ} (l : IsLevel level) where
  -- At first all sides over the extent are
  pub sides_begin : (from to : ℕ) → SidesLeft try level to (first_among try (sides_over level from to)) (low_side level from)
  sides_begin from to =
      let count : (to - from) / smallest_size + 2 ≡ suc ((to - from) / smallest_size + 1) = omega arith in
      record {
        more = (to - from) / smallest_size + 1;
        same = ap (λ (n : ℕ). first_among try (sides_from n level (low_side level from) to)) count;
        enough = omega (arith, below_high level l from);
        is = low_low level l from;
      }

  module _ {end a : ℕ} {whole : Option Cell} (s : SidesLeft try level end whole a) where
    -- The first of them before the end is tried
    tries : a < end → whole ≡ or_else (try a) (λ _. first_among try (sides_from s.more level (high_side level a) end))
    tries less = s.same ∙ ap (first_among try) (sides_more s.more level a end less)

    -- Where it gives a cell, so does the whole
    pub sides_found_lem : {c : Cell} → a < end → try a ≡ Some c → whole ≡ Some c
    sides_found_lem less e =
        tries less ∙ ap (λ (t : Option Cell). or_else t (λ _. first_among try (sides_from s.more level (high_side level a) end))) e

    -- Else the next are left
    pub sides_again : a < end → try a ≡ None → SidesLeft try level end whole (high_side level a)
    sides_again less e =
        at s.more
        (tries less ∙ ap (λ (t : Option Cell). or_else t (λ _. first_among try (sides_from s.more level (high_side level a) end))) e)
        s.enough
      where
        next : low_side level (high_side level a) ≡ high_side level a
        next = high_low level l a s.is

        at : (n : ℕ) → whole ≡ first_among try (sides_from n level (high_side level a) end) → end - high_side level a ≤ smallest_size * n
            → SidesLeft try level end whole (high_side level a)
        at zero k enough =
            record {
              more = 0;
              same = k ∙ sym (ap (first_among try) (sides_none 0 level (high_side level a) end (omega arith)));
              enough = omega (arith, (sides_smallest level l next).apart);
              is = next;
            }
        at (suc n) k enough =
            record { more = n; same = k; enough = omega (arith, (sides_smallest level l next).apart); is = next }

    -- At the end nothing was found
    pub sides_end : end ≤ a → whole ≡ None
    sides_end most = s.same ∙ ap (first_among try) (sides_none s.more level a end most)

-- Levels from one on are still to be tried, up to 27
pub record LevelsLeft (try : ℕ → Option Cell) (whole : Option Cell) (level : ℕ) : Type 0 where
  pub least : coarsest_level ≤ level
  pub most : level ≤ finest_level + 1
  pub same : whole ≡ first_among try (count_up (finest_level + 1 - level) level)

-- At first all levels are
pub levels_begin : (try : ℕ → Option Cell) → LevelsLeft try (first_among try levels) coarsest_level
levels_begin try = record { least = omega arith; most = omega arith; same = refl }

module _ {try : ℕ → Option Cell} {whole : Option Cell} {level : ℕ} (s : LevelsLeft try whole level) where
  -- The first of them is tried
  level_tries : level ≤ finest_level → whole ≡ or_else (try level) (λ _. first_among try (count_up (finest_level - level) (suc level)))
  level_tries less =
      let count : finest_level + 1 - level ≡ suc (finest_level - level) = omega arith in
      s.same ∙ ap (λ (n : ℕ). first_among try (count_up n level)) count

  -- Where it gives a cell, so does the whole
  pub levels_found : {c : Cell} → level ≤ finest_level → try level ≡ Some c → whole ≡ Some c
  levels_found less e =
      level_tries less ∙ ap (λ (t : Option Cell). or_else t (λ _. first_among try (count_up (finest_level - level) (suc level)))) e

  -- Else the next are left
  pub levels_again : level ≤ finest_level → try level ≡ None → LevelsLeft try whole (level + 1)
  levels_again less e =
      let next : suc level ≡ level + 1 = omega arith in
      let left : finest_level - level ≡ finest_level + 1 - suc level = omega arith in
      subst (LevelsLeft try whole) next
      (record {
        least = omega (arith, s.least);
        most = omega arith;
        same =
            level_tries less
            ∙ ap (λ (t : Option Cell). or_else t (λ _. first_among try (count_up (finest_level - level) (suc level)))) e
            ∙ ap (λ (n : ℕ). first_among try (count_up n (suc level))) left;
      })

  -- At the end nothing was found
  pub levels_end : finest_level < level → whole ≡ None
  levels_end past =
      let none : finest_level + 1 - level ≡ 0 = omega arith in
      s.same ∙ ap (λ (n : ℕ). first_among try (count_up n level)) none
