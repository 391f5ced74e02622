use Rattle.fab_ready_laws.proofs.Commands.{generate_judged}
use Rattle.fab_ready_laws.proofs.generate_is_ready_or_refused.Goals as goal

pub returns : goal.returns
returns c = generate_judged
