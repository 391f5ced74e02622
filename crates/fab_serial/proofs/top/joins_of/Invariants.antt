use Rattle.std.proofs.Common.{◌≡◌, map, take}
use Rattle.fab_syntax.specs.declared.tree.Port.{Port}
use Rattle.fab_syntax.specs.Plain.{plain_join}
use Rattle.fab_serial.specs.Module.{same_join}
use Rattle.fab_serial.proofs.top.joins_of.Given as goal

-- the joins so far are those of the ports so far
abbrev pub invariant-loop-port : goal.invariant-loop-port
invariant-loop-port l = map plain_join l.joins.items ≡ map (λ (port : Port). same_join port.name) (take l.port-index l.ports)
