use Rattle.fab_designs.proofs.Judged.{implementation_is_judged}
use Rattle.fab_designs.proofs.laws.spelled_implementations_are_not_refused.Goals as goal

pub returns : goal.returns
returns c = λ files file fabric. (implementation_is_judged files file fabric).apart
