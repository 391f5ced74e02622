use Rattle.fab_ready_laws.proofs.Commands.{bits_judged}
use Rattle.fab_ready_laws.proofs.bits_is_ready_or_refused.Goals as goal

pub returns : goal.returns
returns c = bits_judged
