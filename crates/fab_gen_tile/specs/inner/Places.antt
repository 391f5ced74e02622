-- The places of a tile's wires on the sides of its switch matrix.
use Rattle.std.specs.Prelude.{◌≡◌, ℕ, Bool, List, length, count_by, take, slice_get, slice_index_or, Some}
use Rattle.fab_select.specs.declared.pair.Pair.{Pair}
use Rattle.fab_model.specs.Tiles.{TileWire, is_matrix_output}
use Rattle.fab_gen_tile.specs.TileModule.{is_on_side}

-- how many wires of a side stand before the wire of this number
abbrev pub place_on_side : (output : Bool) → List TileWire → (number : ℕ) → ℕ
place_on_side output wires number = count_by (is_on_side output) (take number wires)

-- each wire has the place on its own side
pub record HasPlaces (wires : List TileWire) (places : List ℕ) : Type 0 where
  pub as_many : length places ≡ length wires
  pub each : (number : ℕ) (wire : TileWire) → slice_get wires number ≡ Some wire →
      slice_index_or places number 0 ≡ place_on_side (is_matrix_output wire) wires number

-- a pair by the places of its wires
abbrev pub placed_pair : (places : List ℕ) → Pair → Pair
placed_pair places pair = record { output = slice_index_or places pair.output 0; input = slice_index_or places pair.input 0 }
