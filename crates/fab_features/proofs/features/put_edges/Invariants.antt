use Rattle.std.proofs.Common.{◌≡◌, ◌++◌, map, take}
use Rattle.fab_features.specs.inner.Listing.{edge_key}
use Rattle.fab_features.proofs.features.put_edges.Given as goal

abbrev pub invariant-loop-edge : goal.invariant-loop-edge
invariant-loop-edge l = l.pairs.items ≡ l.initial.pairs.items ++ map edge_key (take l.edge-index l.edges)
