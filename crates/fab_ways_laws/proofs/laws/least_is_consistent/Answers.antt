use Rattle.fab_ways_laws.proofs.Bounded.{least_is_consistent}
use Rattle.fab_ways_laws.proofs.laws.least_is_consistent.Goals as goal

pub returns : goal.returns
returns c = least_is_consistent
