use Rattle.std.proofs.Common.{◌≡◌, ◌++◌, drop, map}
use Rattle.fab_netlist.specs.Plain.{name_of}
use Rattle.fab_netlist.specs.inner.Places.{id_at}
use Rattle.fab_netlist.proofs.packing.shown.Given as goal

abbrev pub invariant-loop-net : goal.invariant-loop-net
invariant-loop-net l = l.shown.items ++ map (λ net. (name_of l.netlist net, id_at l.table net)) (drop l.net-index l.nets) ≡ map (λ net. (name_of l.netlist net, id_at l.table net)) l.nets
