use Rattle.fab_ways_laws.proofs.Bounded.{least_bounds_walks}
use Rattle.fab_ways_laws.proofs.laws.least_bounds_walks.Goals as goal

pub returns : goal.returns
returns c = least_bounds_walks
