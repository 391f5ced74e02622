use Rattle.fab_ways_laws.proofs.Legal.{unshared_is_legal}
use Rattle.fab_ways_laws.proofs.laws.unshared_is_legal.Goals as goal

pub returns : goal.returns
returns c = unshared_is_legal
