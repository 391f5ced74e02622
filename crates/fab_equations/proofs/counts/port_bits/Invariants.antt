use Rattle.std.proofs.Common.{◌≡◌, map, take}
use Rattle.fab_values.specs.Declarations.{bits_of, port_declaration}
use Rattle.fab_equations.specs.Instances.{in_64_bits}
use Rattle.fab_equations.proofs.counts.port_bits.Given as goal

abbrev pub invariant-loop-port : goal.invariant-loop-port
invariant-loop-port l = l.bits ≡ in_64_bits (bits_of (map port_declaration (take l.port-index l.ports)))
