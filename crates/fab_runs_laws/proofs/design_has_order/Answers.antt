use Rattle.fab_runs_laws.proofs.Rules.{design_has_order}
use Rattle.fab_runs_laws.proofs.design_has_order.Goals as goal

pub returns : goal.returns
returns c = design_has_order
