use Rattle.fab_runs_laws.proofs.Carried.{sources_carry}
use Rattle.fab_runs_laws.proofs.sources_carry.Goals as goal

pub returns : goal.returns
returns c = sources_carry
