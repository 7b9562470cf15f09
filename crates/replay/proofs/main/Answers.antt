-- `replay::main` is safe, and its output is as long as `run` asks. The lengths are told by a law, since the page's is too large to be
-- computed. Assumes nothing.
use native.Mathlib.Omega.{arith}
use Prim.Native.Nat.{ℕ, ◌<◌}
use mathlib.Core.Path.{sym}
use lib.Dec.{lit<}
use lib.ListN.{length, replicate, length-replicate}
use borrow.Author.Rules.{rules}
use Rattle.replay.proofs.main.Goals as goal

some : (m n : ℕ) → m < n → m < length (replicate {A = ℕ} n 0)
some m n h = omega (arith, h, length-replicate {A = ℕ} n 0)

pub slice_bounds-run-end : goal.slice_bounds-run-end
slice_bounds-run-end c = sym (length-replicate {A = ℕ} 1048577 0)

pub run-requires : goal.run-requires
run-requires c = record { in_bounds = some 1048576 1048577 (lit< tt); summary_most_in_bounds = search rules }
