use Rattle.fab_ready_laws.proofs.Designs.{constraints_judged}
use Rattle.fab_ready_laws.proofs.constraints_are_judged.Goals as goal

pub returns : goal.returns
returns c = constraints_judged
