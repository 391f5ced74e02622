use Rattle.fab_runs_laws.proofs.Feeding.{fed_designs_run}
use Rattle.fab_runs_laws.proofs.fed_designs_run.Goals as goal

pub returns : goal.returns
returns c = fed_designs_run
