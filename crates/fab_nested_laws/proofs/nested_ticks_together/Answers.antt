use Rattle.fab_nested_laws.proofs.Lifted.{nested_ticks_together}
use Rattle.fab_nested_laws.proofs.nested_ticks_together.Goals as goal

pub returns : goal.returns
returns c = nested_ticks_together
