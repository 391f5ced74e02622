use Rattle.fab_demand.proofs.Settling.{view_possible}
use Rattle.fab_demand.proofs.laws.view_is_possible.Goals as goal

pub returns : goal.returns
returns c network clock given asked now looked differs = view_possible network clock given asked now looked differs
