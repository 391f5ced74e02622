use Rattle.std.proofs.Common.{◌≡◌, ◌++◌, map, take}
use Rattle.fab_values.specs.Declarations.{port_declaration}
use Rattle.fab_equations.specs.Tables.{firsts_of}
use Rattle.fab_equations.proofs.declaring.declare_ports.Given as goal

abbrev pub invariant-loop-port : goal.invariant-loop-port
invariant-loop-port l =
    (l.declared.names ≡ l.initial.declared.names ++ map port_declaration (take l.port-index l.ports))
    × (l.initial.declared.firsts.items ≡ firsts_of l.initial.declared.names → l.declared.firsts.items ≡ firsts_of l.declared.names)
