use Rattle.std.proofs.Common.{◌≡◌, length}
use Rattle.fab_route.specs.inner.Guided.{HaveHops}
use Rattle.fab_route.specs.Plain.{graph_of}
use Rattle.fab_route.proofs.hops.hops_of.Given as goal

abbrev pub invariant-loop-node : goal.invariant-loop-node
invariant-loop-node l = record {
  many : length l.hops.items ≡ l.classes;
  hops : HaveHops (graph_of l.nodes) l.places.items l.node l.hops.items;
}
