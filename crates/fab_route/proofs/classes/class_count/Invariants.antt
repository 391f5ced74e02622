use Rattle.std.proofs.Common.{◌<◌, ◌≤◌, take}
use Rattle.std.specs.List.{All}
use Rattle.fab_route.specs.declared.classes.Place.{Place}
use Rattle.fab_route.proofs.classes.class_count.Given as goal

abbrev pub invariant-loop-place : goal.invariant-loop-place
invariant-loop-place l = record {
  classes : All (λ (place : Place). place.class < l.count) (take l.place-index l.places);
  few : l.count ≤ 4294967296;
}
