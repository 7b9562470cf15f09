-- What the searches within this crate ask of their callers. Assumes nothing.
use Rattle.std.specs.Prelude.{ℕ, ◌≤◌, ◌≡◌}
use Rattle.ground.specs.Levels.{lon_end}
use Rattle.ground.specs.Cells.{low_side, high_side}

-- The west side of a level's cells, which end within the range
pub record West (level west : ℕ) : Type 0 where
  pub is : low_side level west ≡ west
  pub end : high_side level west ≤ lon_end
