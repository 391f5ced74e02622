use Rattle.fab_designs.proofs.Judged.{implementation_is_judged}
use Rattle.fab_designs.proofs.laws.implementations_are_spelled_once.Goals as goal

pub returns-clause-one_value : goal.returns-clause-one_value
returns-clause-one_value c = λ files file fabric. (implementation_is_judged files file fabric).once

pub returns-clause-one_refusal : goal.returns-clause-one_refusal
returns-clause-one_refusal c = λ files file fabric. (implementation_is_judged files file fabric).refused_once
