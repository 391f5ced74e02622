use Rattle.std.proofs.Common.{◌≡◌, map, take}
use Rattle.fab_settling_laws.specs.fab_use_defs_Registers.{bound_pad}
use Rattle.fab_assemble.proofs.state.input_pads.Given as goal

abbrev pub invariant-loop-port : goal.invariant-loop-port
invariant-loop-port l = l.pads.items ≡ map (bound_pad l.fn.lines) (take l.port-index l.ports)
