use Rattle.std.proofs.Common.{◌≡◌, [], take, nat_eq}
use Rattle.std.specs.List.{flat_map}
use Rattle.indexmap.specs.IndexSet.{insert_all}
use Rattle.fab_legal.specs.inner.Tables.{edge_numbers}
use Rattle.fab_legal.proofs.shared.edge_wires.Given as goal

abbrev pub invariant-loop-edge : goal.invariant-loop-edge
invariant-loop-edge l = l.set.keys ≡ insert_all nat_eq [] (flat_map edge_numbers (take l.edge-index l.edges))
