use Rattle.fab_ready_laws.proofs.Commands.{serial_judged}
use Rattle.fab_ready_laws.proofs.serial_is_ready_or_refused.Goals as goal

pub returns : goal.returns
returns c = serial_judged
