use Rattle.std.specs.List.{flat_map}
use Rattle.fab_model.specs.Tiles.{counted}
use Rattle.fab_use_defs.specs.fab_fabric_text_defs_Places.{column_tiles}
use Rattle.fab_features.specs.Design.{tile_features}
use Rattle.fab_features.specs.inner.Listing.{Pushes}
use Rattle.fab_features.proofs.features.push_columns.Given as goal

-- the lines of the columns so far
abbrev pub invariant-loop-x : goal.invariant-loop-x
invariant-loop-x l =
    Pushes l.fn.features.items l.features.items
    (flat_map (tile_features l.lookup.fabric.now l.lookup.packed.now l.lookup.implementation.now) (flat_map (column_tiles l.lookup.fabric.now) (counted l.x (λ x. x))))
