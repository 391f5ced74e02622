use Rattle.fab_load_runs_laws.proofs.Sound.{decided}
use Rattle.fab_load_runs_laws.proofs.loading_is_decided.Goals as goal

pub returns : goal.returns
returns c text sound = decided text sound
