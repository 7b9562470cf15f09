-- `listing::main` is safe, and its buffers are as long as `list` asks. Their lengths are told by a law, since the output's is too large
-- to be computed. Assumes nothing.
use native.Mathlib.Omega.{arith}
use Prim.Native.Nat.{ℕ, ◌*◌, ◌≤◌, ◌<◌}
use mathlib.Core.Path.{sym}
use lib.Dec.{lit<}
use lib.ListN.{length, replicate, length-replicate}
use Rattle.lines.specs.ReplyLaws.{reply_most}
use Rattle.listing.proofs.main.Goals as goal

some : (m n : ℕ) → m < n → m < length (replicate {A = ℕ} n 0)
some m n h = omega (arith, h, length-replicate {A = ℕ} n 0)

room : (m n : ℕ) → m * reply_most ≤ n → length (replicate {A = ℕ} m 0) * reply_most ≤ length (replicate {A = ℕ} n 0)
room m n h = omega (arith, h, length-replicate {A = ℕ} m 0, length-replicate {A = ℕ} n 0)

replies : 32768 * reply_most ≤ 2326528
replies = omega arith

pub slice_bounds-list-end : goal.slice_bounds-list-end
slice_bounds-list-end c = sym (length-replicate {A = ℕ} 32768 0)

pub slice_bounds-list-end-2 : goal.slice_bounds-list-end-2
slice_bounds-list-end-2 c = sym (length-replicate {A = ℕ} 24577 0)

pub slice_bounds-list-end-3 : goal.slice_bounds-list-end-3
slice_bounds-list-end-3 c = sym (length-replicate {A = ℕ} 2326528 0)

pub list-requires : goal.list-requires
list-requires c =
    record { input_nonzero = some 0 32768 (lit< tt); longest_in_bounds = some 24576 24577 (lit< tt); reply_most_in_bounds = room 32768 2326528 replies }
