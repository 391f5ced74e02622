use Rattle.fab_netlist.proofs.Meaning.{one_meaning}
use Rattle.fab_netlist.proofs.one_meaning.Goals as goal

pub returns : goal.returns
returns c netlist wiring none = one_meaning netlist wiring none
