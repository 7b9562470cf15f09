-- No second answer meets the contract of `replay`, which is an equation of the answer itself. Assumes nothing.
use Rattle.std.specs.Prelude.{◌≡◌, ℕ, List}
use Rattle.facts.specs.Once.{once}
use Rattle.replaying.specs.declared.Replayed.{Replayed}
use Rattle.replaying.specs.Replay.{replayed}

-- Two answers that meet the promise of `replay` are the same
pub replayed_once : (page : List ℕ) (a b : Replayed) → a ≡ replayed page → b ≡ replayed page → a ≡ b
replayed_once page a b = once
