use Rattle.fab_ready_laws.proofs.Blifs.{blif_judged, netlist_judged}
use Rattle.fab_ready_laws.proofs.blif_is_judged.Goals as goal

pub returns-clause-read : goal.returns-clause-read
returns-clause-read c = blif_judged

pub returns-clause-split : goal.returns-clause-split
returns-clause-split c = netlist_judged
