use Rattle.std.proofs.Common.{◌≡◌, map, take}
use Rattle.fab_legal.specs.inner.Keeping.{port_number}
use Rattle.fab_legal.specs.Lines.{named}
use Rattle.fab_route.proofs.lines.input_lines.Given as goal

abbrev pub invariant-loop-port : goal.invariant-loop-port
invariant-loop-port l = l.lines.items ≡ map (port_number (named l.placed.ins)) (take l.port-index l.port-items)
