use Rattle.fab_model.proofs.Found.{one_dest, one_source}
use Rattle.fab_model.proofs.laws.joins_are_one_to_one.Goals as goal

pub returns-clause-one_dest : goal.returns-clause-one_dest
returns-clause-one_dest c = one_dest

pub returns-clause-one_source : goal.returns-clause-one_source
returns-clause-one_source c = one_source
