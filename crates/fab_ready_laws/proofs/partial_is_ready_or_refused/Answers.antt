use Rattle.fab_ready_laws.proofs.Commands.{partial_judged}
use Rattle.fab_ready_laws.proofs.partial_is_ready_or_refused.Goals as goal

pub returns : goal.returns
returns c = λ files names. partial_judged files c.spelled_fabrics_have_tiles.ensures names
