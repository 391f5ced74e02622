-- The wires of a chain through the tiles of a fabric.
use Rattle.std.specs.Prelude.{ℕ, ◌&&◌, List, [], ◌∷◌, nat_eq, if◌then◌else◌}
use Rattle.fab_gen_tile.specs.fab_meaning.specs.Loading.{write_data_name}
use Rattle.fab_gen_tile.specs.fab_model.specs.Grid.{PlainFabric}
use Rattle.fab_fabric_text_defs.specs.Names.{chain_wire_name}
use Rattle.fab_fabric_text_defs.specs.Places.{PlacedTile, placed_tiles}

-- the wire that comes to the tile at a place by a chain through tiles: that of the tile before it, and to the first of them this one
abbrev pub chain_from : (before : List ℕ) → List PlacedTile → (x y : ℕ) → List ℕ
chain_from before [] x y = before
chain_from before (placed ∷ more) x y =
    if nat_eq placed.x x && nat_eq placed.y y then before else chain_from (chain_wire_name placed.x placed.y) more x y

-- the first tile reads the words that are written
abbrev pub chain_source : PlainFabric → (x y : ℕ) → List ℕ
chain_source fabric x y = chain_from write_data_name (placed_tiles fabric) x y
