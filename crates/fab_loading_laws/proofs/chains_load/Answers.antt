use Rattle.fab_loading_laws.proofs.Chain.{chain_loads}
use Rattle.fab_loading_laws.proofs.chains_load.Goals as goal

pub returns : goal.returns
returns c = chain_loads
