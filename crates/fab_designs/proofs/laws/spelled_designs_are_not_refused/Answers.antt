use Rattle.fab_designs.proofs.Judged.{design_is_judged}
use Rattle.fab_designs.proofs.laws.spelled_designs_are_not_refused.Goals as goal

pub returns : goal.returns
returns c = λ files names. (design_is_judged files names).apart
