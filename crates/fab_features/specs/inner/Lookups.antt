-- What a look-up of a design holds.
use Rattle.std.specs.Prelude.{◌*◌, All, map}
use Rattle.std.specs.List.{flat_map}
use Rattle.fab_fabric.specs.Fabric.{IsFabric, wire_count}
use Rattle.fab_features.specs.inner.Adding.{IsCellLine}
use Rattle.fab_features.specs.inner.Listing.{HoldsFirsts, edge_key, line_key}
use Rattle.fab_features.specs.declared.features.Lookup.{Lookup}

-- its tables are those of its cells and edges
pub record IsLookup (lookup : Lookup) : Type 0 where
  pub is_fabric : IsFabric lookup.fabric.now
  pub lines : All (IsCellLine lookup.fabric.now lookup.packed.now) lookup.implementation.now.cells
  pub cells : HoldsFirsts (lookup.fabric.now.columns * lookup.fabric.now.rows * 26) (map (line_key lookup.fabric.now.rows) lookup.implementation.now.cells) lookup.cells.items
  pub entering : HoldsFirsts (wire_count lookup.fabric.now) (map edge_key (flat_map (λ tree. tree.edges) lookup.implementation.now.trees)) lookup.entering.items
