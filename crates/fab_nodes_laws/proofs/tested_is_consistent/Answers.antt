use Rattle.fab_nodes_laws.proofs.Tested.{tested_is_consistent}
use Rattle.fab_nodes_laws.proofs.tested_is_consistent.Goals as goal

pub returns : goal.returns
returns c = tested_is_consistent
