use Rattle.std.proofs.Common.{◌≡◌, drop}
use Rattle.fab_netlist.specs.inner.Search.{unfinished}
use Rattle.fab_netlist.proofs.walk.unfinished.Given as goal

abbrev pub invariant-loop-net : goal.invariant-loop-net
invariant-loop-net l = unfinished l.drivers l.marks (drop l.net-index l.nets) ≡ unfinished l.drivers l.marks l.nets
