use Rattle.fab_wide.proofs.Runs.{split_keeps_runs}
use Rattle.fab_wide.proofs.split_keeps_runs.Goals as goal

pub returns : goal.returns
returns c = split_keeps_runs
