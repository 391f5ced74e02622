use Rattle.std.proofs.Common.{◌≡◌, take}
use Rattle.fab_blif.specs.Design.{data_inputs}
use Rattle.fab_blif.proofs.flattening.data_inputs.Given as goal

abbrev pub invariant-loop-port : goal.invariant-loop-port
invariant-loop-port l = l.nets.items ≡ data_inputs l.clock (take l.port-index l.ports)
