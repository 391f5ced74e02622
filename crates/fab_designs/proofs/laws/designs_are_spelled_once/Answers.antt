use Rattle.fab_designs.proofs.Judged.{design_is_judged}
use Rattle.fab_designs.proofs.laws.designs_are_spelled_once.Goals as goal

pub returns-clause-one_value : goal.returns-clause-one_value
returns-clause-one_value c = λ files names. (design_is_judged files names).once

pub returns-clause-one_number : goal.returns-clause-one_number
returns-clause-one_number c = λ files names. (design_is_judged files names).refused_once
