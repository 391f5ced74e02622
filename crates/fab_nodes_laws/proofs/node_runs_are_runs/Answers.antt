use Rattle.fab_nodes_laws.proofs.Runs.{node_runs_are_runs}
use Rattle.fab_nodes_laws.proofs.node_runs_are_runs.Goals as goal

pub returns : goal.returns
returns c = node_runs_are_runs
