use Rattle.std.proofs.Common.{◌≡◌, ◌++◌, drop}
use Rattle.fab_netlist.specs.inner.Places.{ids_by}
use Rattle.fab_netlist.proofs.packing.joined_tables.Given as goal

abbrev pub invariant-loop-net : goal.invariant-loop-net
invariant-loop-net l = l.table.items ++ ids_by (drop l.net l.inputs) (drop l.net l.cells) ≡ ids_by l.inputs l.cells
