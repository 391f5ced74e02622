use Rattle.fab_nodes_laws.proofs.Runs.{unshared_nodes_are_legal}
use Rattle.fab_nodes_laws.proofs.unshared_nodes_are_legal.Goals as goal

pub returns : goal.returns
returns c = unshared_nodes_are_legal
