use Rattle.fab_flow_laws.proofs.PairsOnce.{spelled_pairs_once}
use Rattle.fab_flow_laws.proofs.spelled_pairs_stand_once.Goals as goal

pub returns : goal.returns
returns c = spelled_pairs_once
