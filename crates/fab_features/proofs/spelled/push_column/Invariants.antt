use Rattle.std.specs.List.{flat_map, filter_map}
use Rattle.fab_model.specs.Tiles.{counted}
use Rattle.fab_fabric.specs.Bits.{plain_bits}
use Rattle.fab_use_defs.specs.fab_fabric_text_defs_Places.{placed_at}
use Rattle.fab_features.specs.inner.Listing.{Pushes}
use Rattle.fab_features.specs.Spelled.{place_spells}
use Rattle.fab_features.proofs.spelled.push_column.Given as goal

-- the lines of the tiles so far
abbrev pub invariant-loop-y : goal.invariant-loop-y
invariant-loop-y l = Pushes l.fn.features.items l.features.items (flat_map (place_spells (plain_bits l.bits)) (filter_map (placed_at l.fabric l.x) (counted l.y (λ y. y))))
