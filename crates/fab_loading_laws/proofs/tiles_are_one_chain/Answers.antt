use Rattle.fab_loading_laws.proofs.Chain.{one_chain}
use Rattle.fab_loading_laws.proofs.tiles_are_one_chain.Goals as goal

pub returns : goal.returns
returns c = one_chain
