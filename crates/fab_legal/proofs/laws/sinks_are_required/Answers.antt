use Rattle.fab_legal.proofs.SinkLaw.{sinks_are_required}
use Rattle.fab_legal.proofs.laws.sinks_are_required.Goals as goal

pub returns : goal.returns
returns c = sinks_are_required
