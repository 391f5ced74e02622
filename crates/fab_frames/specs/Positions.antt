-- The configuration bits of a fabric as one chain, each at its position.
use Rattle.std.specs.Prelude.{ℕ, ◌+◌, ◌*◌, ◌/◌, Bool, List, length, slice_get, Option}
use Rattle.std.specs.List.{flat_map}
use Rattle.fab_model.specs.Tiles.{tile_bits, counted}
use Rattle.fab_model.specs.Grid.{PlainFabric}
use Rattle.fab_model.specs.Drive.{PlainBits}
use Rattle.fab_fabric.specs.Places.{PlacedTile, placed_tiles}
use Rattle.fab_frames.specs.declared.positions.BitPlace.{BitPlace}

-- a configuration bit: the place of its tile, and its number there
abbrev pub bit_place : (x y bit : ℕ) → BitPlace
bit_place x y bit = record { x = x; y = y; bit = bit }

-- its value
abbrev pub bit_in : PlainBits → BitPlace → Bool
bit_in bits at = bits at.x at.y at.bit

-- those of a tile by number
abbrev pub tile_chain : PlacedTile → List BitPlace
tile_chain placed = counted (tile_bits placed.tile) (bit_place placed.x placed.y)

-- All of them, from position 0: column by column, in a column from the top. Empty places have no positions.
abbrev pub chain : PlainFabric → List BitPlace
chain fabric = flat_map tile_chain (placed_tiles fabric)

-- ---- in words of 32 bits

-- the configuration bit at each bit of a word, where the word that comes last is counted as 0
abbrev pub placed_in_chain : PlainFabric → (word bit : ℕ) → Option BitPlace
placed_in_chain fabric word bit = slice_get (chain fabric) (32 * word + bit)

-- how many words they take
abbrev pub chain_words : PlainFabric → ℕ
chain_words fabric = (length (chain fabric) + 31) / 32
