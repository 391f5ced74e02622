use Rattle.std.proofs.Common.{◌≡◌, ◌++◌, All, map}
use Rattle.std.specs.List.{filter_map}
use Rattle.fab_model.specs.Tiles.{counted}
use Rattle.fab_text_loads_laws.specs.fab_fabric_text_defs_Places.{placed_at}
use Rattle.fab_gen_top.specs.inner.Standing.{placed_of, IsPlaceOf}
use Rattle.fab_gen_top.proofs.places.push_column.Given as goal

-- the places of the rows so far
abbrev pub invariant-loop-y : goal.invariant-loop-y
invariant-loop-y l = record {
  places : map (placed_of l.fabric) l.places.items ≡ map (placed_of l.fabric) l.initial.places.items ++ filter_map (placed_at l.fabric l.x) (counted l.y (λ y. y));
  stand : All (IsPlaceOf l.fabric) l.places.items;
}
