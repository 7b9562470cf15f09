-- `replaying::replay` meets its contract. The loop's invariant is `Replaying`; what is found there is a record, and then the loop goes on
-- behind it, or none. Assumes nothing.
use Rattle.std.proofs.Common.{◌-◌, length}
use Rattle.replaying.proofs.ReplayLaws.{Replaying}
use Rattle.replaying.proofs.replay.Given as goal

abbrev pub invariant-loop-found : goal.invariant-loop-found
invariant-loop-found l = Replaying l.page l.slots l.read l.account l.counts l.at l.found

abbrev pub decreases-loop-found : goal.decreases-loop-found
decreases-loop-found l = length l.page - l.at
