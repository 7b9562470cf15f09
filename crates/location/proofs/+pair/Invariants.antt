-- `location::pair` takes a bit less at each call. Assumes nothing.
use Rattle.location.proofs.+pair.Given as goal

abbrev pub decreases-pair : goal.decreases-pair
decreases-pair l = l.n
