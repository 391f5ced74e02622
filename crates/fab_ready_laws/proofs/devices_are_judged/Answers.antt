use Rattle.fab_ready_laws.proofs.Simulations.{device_judged}
use Rattle.fab_ready_laws.proofs.devices_are_judged.Goals as goal

pub returns : goal.returns
returns c = device_judged
