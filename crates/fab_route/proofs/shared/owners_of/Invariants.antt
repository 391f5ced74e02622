use Rattle.std.proofs.Common.{◌≡◌, length}
use Rattle.fab_pathfinder.specs.Plain.{trees_of}
use Rattle.fab_route.specs.inner.Owners.{AreOwners}
use Rattle.fab_route.proofs.shared.owners_of.Given as goal

abbrev pub invariant-loop-place : goal.invariant-loop-place
invariant-loop-place l = record {
  long : length l.owners.items ≡ l.nodes;
  owners : AreOwners (trees_of l.trees) l.place l.owners.items;
}
