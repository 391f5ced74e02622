use Rattle.fab_idle_pads_laws.proofs.Idle.{mappings_leave_idle_pads}
use Rattle.fab_idle_pads_laws.proofs.mappings_leave_idle_pads.Goals as goal

pub returns : goal.returns
returns c = mappings_leave_idle_pads
