use Rattle.std.proofs.Common.{◌≡◌, take, length}
use Rattle.fab_route.specs.inner.Owners.{IsNoted}
use Rattle.fab_route.proofs.shared.note_tree.Given as goal

abbrev pub invariant-loop-node : goal.invariant-loop-node
invariant-loop-node l = record {
  long : length l.owners.items ≡ length l.fn.owners.items;
  noted : IsNoted l.fn.owners.items l.owners.items l.place (take l.node-index l.nodes);
}
