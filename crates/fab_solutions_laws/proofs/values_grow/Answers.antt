use Rattle.fab_solutions_laws.proofs.Growing.{value_grows}
use Rattle.fab_solutions_laws.proofs.values_grow.Goals as goal

pub returns : goal.returns
returns c ds names more wide grow e fit = value_grows ds names wide more grow e fit
