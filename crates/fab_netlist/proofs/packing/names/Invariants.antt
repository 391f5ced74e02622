use Rattle.std.proofs.Common.{◌≡◌, ◌++◌, drop, map}
use Rattle.fab_netlist.specs.Plain.{name_of}
use Rattle.fab_netlist.proofs.packing.names.Given as goal

abbrev pub invariant-loop-net : goal.invariant-loop-net
invariant-loop-net l = l.names.items ++ map (name_of l.netlist) (drop l.net-index l.nets) ≡ map (name_of l.netlist) l.nets
