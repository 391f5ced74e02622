use Rattle.fab_ready_laws.proofs.Commands.{bit_features_judged}
use Rattle.fab_ready_laws.proofs.features_is_ready_or_refused.Goals as goal

pub returns : goal.returns
returns c = λ files hold names. bit_features_judged files c.spelled_fabrics_are_fabrics.ensures hold names
