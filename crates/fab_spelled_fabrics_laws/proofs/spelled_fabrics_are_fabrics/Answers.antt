use Rattle.fab_spelled_fabrics_laws.proofs.Whole.{spelled_fabric}
use Rattle.fab_spelled_fabrics_laws.proofs.spelled_fabrics_are_fabrics.Goals as goal

pub returns : goal.returns
returns c = spelled_fabric
