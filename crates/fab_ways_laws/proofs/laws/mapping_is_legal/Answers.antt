use Rattle.fab_ways_laws.proofs.Legal.{mapping_is_legal}
use Rattle.fab_ways_laws.proofs.laws.mapping_is_legal.Goals as goal

pub returns : goal.returns
returns c = mapping_is_legal
