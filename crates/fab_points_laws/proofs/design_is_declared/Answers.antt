use Rattle.fab_points_laws.proofs.Laws.{design_is_declared}
use Rattle.fab_points_laws.proofs.design_is_declared.Goals as goal

pub returns : goal.returns
returns c = design_is_declared
