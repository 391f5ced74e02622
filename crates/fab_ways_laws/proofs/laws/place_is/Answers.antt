use Rattle.fab_ways_laws.proofs.Ends.{place_is}
use Rattle.fab_ways_laws.proofs.laws.place_is.Goals as goal

pub returns : goal.returns
returns c = place_is
