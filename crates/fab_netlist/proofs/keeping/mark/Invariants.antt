use Rattle.std.proofs.Common.{◌≡◌, drop}
use Rattle.fab_netlist.specs.Kept.{marked}
use Rattle.fab_netlist.proofs.keeping.mark.Given as goal

abbrev pub invariant-loop-net : goal.invariant-loop-net
invariant-loop-net l = marked (drop l.net-index l.nets) l.marks ≡ marked l.nets l.fn.marks
