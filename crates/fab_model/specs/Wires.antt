-- The wires of a fabric by numbers: of the place, of the row or the BEL, and of the bit or the pin.
use Rattle.std.specs.Prelude.{◌≡◌, ℕ, ◌+◌, ◌<◌, true, false, List, [], ◌∷◌, ◌++◌, length, take, sum_by, Option, Some, slice_get}
use Rattle.std.specs.Option.{option_map, option_map_or}
use Rattle.fab_kinds.specs.Pins.{pin_names}
use Rattle.fab_model.specs.declared.tiles.WireRow.{WireRow}
use Rattle.fab_model.specs.declared.tiles.Bel.{Bel}
use Rattle.fab_model.specs.Rows.{source_bits, dest_bits}
use Rattle.fab_model.specs.Tiles.{PlainTile, TileWire, source_bit, dest_bit, bel_pin, counted, is_matrix_output}
use Rattle.fab_model.specs.Grid.{PlainFabric, tile_at}

pub data PlainWire : Type 0 where
  source_of : (row bit : ℕ) → PlainWire
  dest_of : (row bit : ℕ) → PlainWire
  pin_of : (bel pin : ℕ) → PlainWire

-- the wire itself, if the tile has the row or the BEL
abbrev pub wire_of : PlainTile → PlainWire → Option TileWire
wire_of tile (source_of row bit) = option_map (λ found. source_bit found bit) (slice_get tile.rows row)
wire_of tile (dest_of row bit) = option_map (λ found. dest_bit found bit) (slice_get tile.rows row)
wire_of tile (pin_of bel pin) = option_map (λ found. bel_pin found pin) (slice_get tile.bels bel)

-- ---- which wires there are

abbrev pub pin_count : Bel → ℕ
pin_count bel = length (pin_names bel.kind)

abbrev pub sources_at : List WireRow → (row : ℕ) → ℕ
sources_at rows row = option_map_or source_bits (slice_get rows row) 0

abbrev pub dests_at : List WireRow → (row : ℕ) → ℕ
dests_at rows row = option_map_or dest_bits (slice_get rows row) 0

abbrev pub pins_at : List Bel → (bel : ℕ) → ℕ
pins_at bels bel = option_map_or pin_count (slice_get bels bel) 0

-- the tile has the wire
abbrev pub IsWire : PlainTile → PlainWire → Type 0
IsWire tile (source_of row bit) = bit < sources_at tile.rows row
IsWire tile (dest_of row bit) = bit < dests_at tile.rows row
IsWire tile (pin_of bel pin) = pin < pins_at tile.bels bel

-- the switch matrix drives the wire: it is a source bit or an input pin of what the tile has
abbrev pub IsMatrixOutput : PlainTile → PlainWire → Type 0
IsMatrixOutput tile wire = option_map_or is_matrix_output (wire_of tile wire) false ≡ true

-- the tile at a place has the wire
pub record HasWire (fabric : PlainFabric) (x y : ℕ) (wire : PlainWire) : Type 0 where
  pub tile : PlainTile
  pub tile_is : tile_at fabric x y ≡ Some tile
  pub is_wire : IsWire tile wire

-- ---- their matrix names

abbrev pub plain_row_wires : (first : ℕ) → List WireRow → List PlainWire
plain_row_wires first [] = []
plain_row_wires first (row ∷ rows) =
    counted (source_bits row) (source_of first) ++ (counted (dest_bits row) (dest_of first) ++ plain_row_wires (first + 1) rows)

abbrev pub plain_bel_wires : (first : ℕ) → List Bel → List PlainWire
plain_bel_wires first [] = []
plain_bel_wires first (bel ∷ bels) = counted (pin_count bel) (pin_of first) ++ plain_bel_wires (first + 1) bels

-- the wires of a tile, each at the number of its matrix name
abbrev pub plain_wires : PlainTile → List PlainWire
plain_wires tile = plain_row_wires 0 tile.rows ++ plain_bel_wires 0 tile.bels

-- how many wires the first rows have, and the first BELs
abbrev pub wires_before_row : List WireRow → (row : ℕ) → ℕ
wires_before_row rows row = sum_by (λ found. source_bits found + dest_bits found) (take row rows)

abbrev pub wires_before_bel : List Bel → (bel : ℕ) → ℕ
wires_before_bel bels bel = sum_by pin_count (take bel bels)

-- the number of a wire's matrix name
abbrev pub wire_number : PlainTile → PlainWire → ℕ
wire_number tile (source_of row bit) = wires_before_row tile.rows row + bit
wire_number tile (dest_of row bit) = wires_before_row tile.rows row + sources_at tile.rows row + bit
wire_number tile (pin_of bel pin) = wires_before_row tile.rows (length tile.rows) + wires_before_bel tile.bels bel + pin
