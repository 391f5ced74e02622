use Rattle.fab_serial_laws.proofs.Takes.{takes_port}
use Rattle.fab_serial_laws.proofs.fabric_texts_take_ports.Goals as goal

pub returns : goal.returns
returns c = takes_port
