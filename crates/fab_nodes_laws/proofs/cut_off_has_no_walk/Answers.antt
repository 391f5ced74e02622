use Rattle.fab_nodes_laws.proofs.Runs.{cut_off_has_no_walk}
use Rattle.fab_nodes_laws.proofs.cut_off_has_no_walk.Goals as goal

pub returns : goal.returns
returns c = cut_off_has_no_walk
