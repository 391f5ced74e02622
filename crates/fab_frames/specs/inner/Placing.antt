-- What is kept of a fabric, so that no word takes a search.
use Rattle.std.specs.Prelude.{◌≡◌, ◌<◌, ◌+◌, ◌*◌, ℕ, List, Option, Some, None, length, slice_get, slice_index_or}
use Rattle.std.specs.List.{flat_map}
use Rattle.fab_model.specs.declared.mode.Mode.TheVariants as modes
use Rattle.fab_model.specs.Tiles.{PlainTile, counted}
use Rattle.fab_model.specs.Grid.{PlainFabric}
use Rattle.fab_fabric.specs.Bits.{bits_at}
use Rattle.fab_fabric.specs.Fabric.{IsFabric}
use Rattle.fab_frames.specs.Positions.{bit_place, chain}
use Rattle.fab_frames.specs.Stream.{stream_mode, placed_bit, bit_placed_at}
use Rattle.fab_frames.specs.declared.positions.BitPlace.{BitPlace}
use Rattle.fab_frames.specs.declared.placing.FrameMap.{FrameMap}
use Rattle.fab_frames.specs.declared.placing.Places.{Places}

-- ---- frames

-- frame by frame the configuration bit that is placed at each bit
pub record IsMap (tile : PlainTile) (placed : List (Option ℕ)) : Type 0 where
  pub long : length placed ≡ 640
  pub each : (frame bit : ℕ) → frame < 20 → bit < 32 → slice_index_or placed (frame * 32 + bit) None ≡ placed_bit frame bit tile

-- there is a map of each tile type
pub record HaveMaps (fabric : PlainFabric) (maps : List FrameMap) : Type 0 where
  pub is_fabric : IsFabric fabric
  pub mapped : (number : ℕ) (tile : PlainTile) → slice_get fabric.types number ≡ Some tile →
      (map : FrameMap) × (slice_get maps number ≡ Some map) × IsMap tile map.placed.items

-- the configuration bit at a bit of a row
abbrev pub placed_in : (placed : List (Option ℕ)) → (bit : ℕ) → Option ℕ
placed_in placed bit = slice_index_or placed bit None

-- the configuration bits that are placed in a row of a frame, bit by bit
pub record IsPlacedRow (fabric : PlainFabric) (x y frame : ℕ) (placed : List (Option ℕ)) : Type 0 where
  pub long : length placed ≡ 32
  pub each : (bit : ℕ) → bit < 32 → placed_in placed bit ≡ bit_placed_at fabric x y frame bit

-- ---- a chain, as the code goes along it

-- the configuration bits of a place; an empty place has none
abbrev pub place_chain : PlainFabric → (x y : ℕ) → List BitPlace
place_chain fabric x y = counted (bits_at fabric x y) (bit_place x y)

-- those of a column
abbrev pub column_chain : PlainFabric → (x : ℕ) → List BitPlace
column_chain fabric x = flat_map (place_chain fabric x) (counted fabric.rows (λ y. y))

-- ---- both

-- the maps of the tile types, and the positions where there is a chain
pub record HavePlaces (fabric : PlainFabric) (places : Places) : Type 0 where
  pub maps : HaveMaps fabric places.maps.items
  pub positions : stream_mode fabric ≡ modes.Chain → places.chain.items ≡ chain fabric
