-- No second answer meets the contract of `entry`. Assumes nothing.
use Rattle.std.specs.Prelude.{Option, ℕ, ◌≡◌, List}
use Rattle.facts.specs.Once.{once}
use Rattle.entry.specs.declared.Stated.{Stated}
use Rattle.entry.specs.Stated.{stated_of}

-- Two answers that meet the promise of `message_of` are the same
pub stated_once : (line : List ℕ) (a b : Option Stated) → a ≡ stated_of line → b ≡ stated_of line → a ≡ b
stated_once line a b = once
