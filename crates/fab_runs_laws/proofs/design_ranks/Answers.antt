use Rattle.fab_runs_laws.proofs.Ranks.{design_ranks}
use Rattle.fab_runs_laws.proofs.design_ranks.Goals as goal

pub returns : goal.returns
returns c = design_ranks
