use Rattle.fab_wide.proofs.Runs.{split_shows_runs}
use Rattle.fab_wide.proofs.split_shows_runs.Goals as goal

pub returns : goal.returns
returns c = split_shows_runs
