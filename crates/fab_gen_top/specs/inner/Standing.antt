-- Tiles by the numbers of their types, and how they stand in a chain.
use Rattle.std.specs.Prelude.{◌≡◌, ◌<◌, ℕ, zero, suc, Bool, false, List, [], length, slice_get, slice_index_or, Option, Some, None}
use Rattle.fab_model.specs.Tiles.{PlainTile, bare_tile}
use Rattle.fab_model.specs.Grid.{PlainFabric, tile_at}
use Rattle.fab_meaning.specs.Loading.{write_data_name}
use Rattle.fab_text_loads_laws.specs.fab_fabric_text_defs_Names.{chain_wire_name}
use Rattle.fab_drives_laws.specs.fab_fabric_text_defs_Chain.{chain_source}
use Rattle.fab_text_loads_laws.specs.fab_fabric_text_defs_Places.{PlacedTile}
use Rattle.fab_text_loads_laws.specs.fab_fabric_text_defs_Text.{stands}
use Rattle.fab_gen_top.specs.declared.places.Place.{Place}

-- the type of a number
abbrev pub type_of : PlainFabric → (number : ℕ) → PlainTile
type_of fabric number = slice_index_or fabric.types number (bare_tile [] [] [])

abbrev pub placed_of : PlainFabric → Place → PlacedTile
placed_of fabric place = record { x = place.x; y = place.y; tile = type_of fabric place.number }

-- a tile of the type of this number stands there
pub record IsPlaceOf (fabric : PlainFabric) (place : Place) : Type 0 where
  pub is_type : place.number < length fabric.types
  pub tile_is : tile_at fabric place.x place.y ≡ Some (type_of fabric place.number)

-- the place in front of one in a list, if there is one
abbrev pub place_before : List Place → (number : ℕ) → Option Place
place_before places zero = None
place_before places (suc number) = slice_get places number

-- the wire behind the bits of the tile at a place, and before the first tile the input of the words
abbrev pub wire_behind : (before : Option Place) → List ℕ
wire_behind None = write_data_name
wire_behind (Some place) = chain_wire_name place.x place.y

-- in the chain the tile at a place stands right behind the other, or is the first
abbrev pub IsBehind : PlainFabric → (before : Option Place) → Place → Type 0
IsBehind fabric before place = chain_source fabric place.x place.y ≡ wire_behind before

-- for each type whether it stands at some place
pub record AreStanding (fabric : PlainFabric) (marks : List Bool) : Type 0 where
  pub as_many : length marks ≡ length fabric.types
  pub each : (number : ℕ) → number < length fabric.types → slice_index_or marks number false ≡ stands fabric number
