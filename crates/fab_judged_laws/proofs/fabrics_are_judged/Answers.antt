use Rattle.fab_judged_laws.proofs.Fabrics.{fabric_judged}
use Rattle.fab_judged_laws.proofs.fabrics_are_judged.Goals as goal

pub returns : goal.returns
returns c = fabric_judged
