use Rattle.fab_netlist.proofs.Carried.{keeps_meaning}
use Rattle.fab_netlist.proofs.packing_keeps_meaning.Goals as goal

pub returns : goal.returns
returns c netlist made none given held now meets = keeps_meaning netlist made none given held now meets
