-- `trials::accounts::count_listed` is safe: it has counted at most the places that it saw. Assumes nothing.
use Rattle.std.proofs.Common.{◌≤◌}
use Rattle.trials.proofs.accounts.count_listed.Given as goal

abbrev pub invariant-loop-place : goal.invariant-loop-place
invariant-loop-place l = l.count ≤ l.place
