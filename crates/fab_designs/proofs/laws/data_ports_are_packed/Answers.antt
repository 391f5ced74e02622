use Rattle.fab_designs.proofs.DataPorts.{data_ports_are_ports}
use Rattle.fab_designs.proofs.laws.data_ports_are_packed.Goals as goal

pub returns : goal.returns
returns c = data_ports_are_ports
