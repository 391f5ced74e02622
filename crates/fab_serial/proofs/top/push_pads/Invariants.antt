use Rattle.std.proofs.Common.{◌≡◌, ◌++◌, filter, take}
use Rattle.fab_serial.specs.Module.{is_pad}
use Rattle.fab_serial.proofs.top.push_pads.Given as goal

-- the pads so far are those among the ports so far
abbrev pub invariant-loop-port : goal.invariant-loop-port
invariant-loop-port l = l.pads.items ≡ l.initial.pads.items ++ filter is_pad (take l.port-index l.ports)
