use Rattle.fab_read.proofs.FabricsOnce.{not_refused}
use Rattle.fab_read.proofs.laws.spelled_fabrics_are_not_refused.Goals as goal

pub returns : goal.returns
returns c = not_refused
