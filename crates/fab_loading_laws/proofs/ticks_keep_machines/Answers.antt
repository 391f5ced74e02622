use Rattle.fab_loading_laws.proofs.Ticks.{tick_keeps}
use Rattle.fab_loading_laws.proofs.ticks_keep_machines.Goals as goal

pub returns : goal.returns
returns c rows machine write word few is long = tick_keeps rows machine word write few is long
