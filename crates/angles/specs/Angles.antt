-- Two angles of one direction. Assumes nothing.
use Rattle.std.specs.Prelude.{ℕ, ◌+◌, ◌-◌}

-- How far apart they are
abbrev pub distance : ℕ → ℕ → ℕ
distance a b = (a - b) + (b - a)
