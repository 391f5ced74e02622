use Rattle.std.proofs.Common.{◌≡◌, map, take}
use Rattle.std.specs.List.{flat_map}
use Rattle.fab_features.specs.inner.Listing.{edge_key}
use Rattle.fab_features.proofs.features.edge_pairs.Given as goal

abbrev pub invariant-loop-tree : goal.invariant-loop-tree
invariant-loop-tree l = l.pairs.items ≡ map edge_key (flat_map (λ tree. tree.edges) (take l.tree-index l.trees))
