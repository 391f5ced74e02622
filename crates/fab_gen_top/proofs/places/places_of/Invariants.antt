use Rattle.std.proofs.Common.{◌≡◌, All, map}
use Rattle.std.specs.List.{flat_map}
use Rattle.fab_model.specs.Tiles.{counted}
use Rattle.fab_text_loads_laws.specs.fab_fabric_text_defs_Places.{column_tiles}
use Rattle.fab_gen_top.specs.inner.Standing.{placed_of, IsPlaceOf}
use Rattle.fab_gen_top.proofs.places.places_of.Given as goal

-- the places of the columns so far
abbrev pub invariant-loop-x : goal.invariant-loop-x
invariant-loop-x l = record {
  places : map (placed_of l.fabric) l.places.items ≡ flat_map (column_tiles l.fabric) (counted l.x (λ x. x));
  stand : All (IsPlaceOf l.fabric) l.places.items;
}
