-- No second answer meets the contracts of `index`: each is an equation of the answer itself, or of the slots afterwards. Assumes nothing.
use Rattle.std.specs.Prelude.{ℕ, ◌≡◌, List}
use Rattle.facts.specs.Once.{once}

-- Two places that meet the promise of `find` are the same
pub find_once : (place a b : ℕ) → a ≡ place → b ≡ place → a ≡ b
find_once place a b = once

-- and two arrays of slots that meet that of `note`
pub note_once : (slots a b : List ℕ) → a ≡ slots → b ≡ slots → a ≡ b
note_once slots a b = once
