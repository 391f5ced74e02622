use Rattle.std.proofs.Common.{◌≡◌, ◌<◌, length}
use Rattle.std.specs.List.{All}
use Rattle.fab_route.specs.declared.classes.Place.{Place}
use Rattle.fab_route.proofs.classes.places_of.Given as goal

abbrev pub invariant-loop-node : goal.invariant-loop-node
invariant-loop-node l = record {
  long : length l.places.items ≡ l.node;
  columns : All (λ (place : Place). place.column < l.fabric.columns) l.places.items;
  rows : All (λ (place : Place). place.row < l.fabric.rows) l.places.items;
}
