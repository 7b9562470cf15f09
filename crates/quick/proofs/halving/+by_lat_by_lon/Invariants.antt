-- `quick::halving::by_lat` and `by_lon` have fewer halvings left at each call. Assumes nothing.
use Rattle.quick.proofs.halving.+by_lat_by_lon.Given as goal

abbrev pub decreases-by_lat : goal.decreases-by_lat
decreases-by_lat l = l.left

abbrev pub decreases-by_lon : goal.decreases-by_lon
decreases-by_lon l = l.left
