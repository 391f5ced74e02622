use Rattle.std.specs.List.{flat_map, filter_map}
use Rattle.fab_model.specs.Tiles.{counted}
use Rattle.fab_use_defs.specs.fab_fabric_text_defs_Places.{placed_at}
use Rattle.fab_features.specs.Design.{tile_features}
use Rattle.fab_features.specs.inner.Listing.{Pushes}
use Rattle.fab_features.proofs.features.push_column.Given as goal

-- the lines of the tiles so far
abbrev pub invariant-loop-y : goal.invariant-loop-y
invariant-loop-y l =
    Pushes l.fn.features.items l.features.items
    (flat_map (tile_features l.lookup.fabric.now l.lookup.packed.now l.lookup.implementation.now) (filter_map (placed_at l.lookup.fabric.now l.x) (counted l.y (λ y. y))))
