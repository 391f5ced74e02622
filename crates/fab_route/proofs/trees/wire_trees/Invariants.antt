use Rattle.fab_pathfinder.specs.Plain.{trees_of}
use Rattle.fab_route.specs.Plain.{numbering_of}
use Rattle.fab_route.specs.inner.Wanted.{wire_groups}
use Rattle.fab_route.proofs.Growing.{HaveTrees}
use Rattle.fab_route.proofs.trees.wire_trees.Given as goal

abbrev pub invariant-loop-place : goal.invariant-loop-place
invariant-loop-place l = HaveTrees (numbering_of l.nodes) l.names (wire_groups l.sinks.items) (trees_of l.trees) l.place l.told.items
