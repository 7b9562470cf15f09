-- `journal::main` is safe, and its buffers are as long as `run` asks. Their lengths are told by a law, since two of them are too large to
-- be computed. Assumes nothing.
use native.Mathlib.Omega.{arith}
use Prim.Native.Nat.{ℕ, ◌*◌, ◌≤◌, ◌<◌}
use mathlib.Core.Path.{sym}
use lib.Dec.{lit<}
use lib.ListN.{length, replicate, length-replicate}
use Rattle.page.specs.Page.{record_length}
use Rattle.lines.specs.ReplyLaws.{reply_most}
use Rattle.journal.proofs.main.Goals as goal

some : (m n : ℕ) → m < n → m < length (replicate {A = ℕ} n 0)
some m n h = omega (arith, h, length-replicate {A = ℕ} n 0)

room : (most m n : ℕ) → m * most ≤ n → length (replicate {A = ℕ} m 0) * most ≤ length (replicate {A = ℕ} n 0)
room most m n h = rw (length-replicate {A = ℕ} m 0, length-replicate {A = ℕ} n 0) h

records : 16384 * record_length ≤ 507904
records = omega arith

refusals : 16384 * reply_most ≤ 1163264
refusals = omega arith

pub slice_bounds-run-end : goal.slice_bounds-run-end
slice_bounds-run-end c = sym (length-replicate {A = ℕ} 16384 0)

pub slice_bounds-run-end-2 : goal.slice_bounds-run-end-2
slice_bounds-run-end-2 c = sym (length-replicate {A = ℕ} 24577 0)

pub slice_bounds-run-end-3 : goal.slice_bounds-run-end-3
slice_bounds-run-end-3 c = sym (length-replicate {A = ℕ} 507904 0)

pub slice_bounds-run-end-4 : goal.slice_bounds-run-end-4
slice_bounds-run-end-4 c = sym (length-replicate {A = ℕ} 1163264 0)

pub run-requires : goal.run-requires
run-requires c =
    record { input_nonzero = some 0 16384 (lit< tt); longest_in_bounds = some 24576 24577 (lit< tt); record_length_in_bounds = room record_length 16384 507904 records; reply_most_in_bounds = room reply_most 16384 1163264 refusals }
