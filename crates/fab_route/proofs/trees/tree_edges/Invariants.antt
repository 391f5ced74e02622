use Rattle.std.proofs.Common.{◌≡◌, map, take}
use Rattle.fab_route.specs.Plain.{numbering_of}
use Rattle.fab_route.proofs.Growing.{sum_of, HaveEdges}
use Rattle.fab_route.proofs.Wanting.{number}
use Rattle.fab_route.proofs.trees.tree_edges.Given as goal

abbrev pub invariant-loop-number : goal.invariant-loop-number
invariant-loop-number l = record {
  from : l.from ≡ sum_of (take l.number l.tree.lengths.items);
  edges : HaveEdges (numbering_of l.nodes) (map number l.sinks) l.tree.nodes.items l.tree.lengths.items l.number l.edges.items;
}
