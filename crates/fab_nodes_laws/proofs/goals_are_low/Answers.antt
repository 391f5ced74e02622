use Rattle.fab_nodes_laws.proofs.Tested.{goals_are_low}
use Rattle.fab_nodes_laws.proofs.goals_are_low.Goals as goal

pub returns : goal.returns
returns c = goals_are_low
