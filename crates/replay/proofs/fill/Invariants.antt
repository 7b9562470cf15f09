-- `replay::fill` is safe and ends: each read that brings something leaves less of the page to be filled. The loop's invariant: the page keeps
-- its length, and the bytes that came stand in it. Assumes nothing.
use Prim.Native.Nat.{◌-◌, ◌≤◌}
use mathlib.Core.Path.{◌≡◌}
use lib.ListN.{length}
use Rattle.replay.proofs.fill.Given as goal

abbrev pub invariant-loop-len : goal.invariant-loop-len
invariant-loop-len l = (l.len ≤ length l.page) × (length l.page ≡ length l.fn.page)

abbrev pub decreases-loop-len : goal.decreases-loop-len
decreases-loop-len l = length l.page - l.len
