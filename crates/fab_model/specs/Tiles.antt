-- A tile type as plain data, its matrix names and its configuration bits.
use Rattle.std.specs.Prelude.{◌≡◌, ◌≢◌, ◌≤◌, ℕ, zero, suc, ◌+◌, Bool, true, false, All, AllPairs, slice_get, List, [], ◌∷◌, ◌++◌, length, map, not, nat_eq, nat_lt, sum_by, take, slice_index_or, Option, Some, None, if◌then◌else◌}
use Rattle.std.specs.List.{flat_map}
use Rattle.std.specs.Option.{option_map_or}
use Rattle.fab_kinds.specs.Pins.{input_count, pin_names, bit_count}
use Rattle.fab_select.specs.declared.pair.Pair.{Pair}
use Rattle.fab_select.specs.Selection.{field_width, field_low, select_bits}
use Rattle.fab_model.specs.declared.tiles.WireRow.{WireRow}
use Rattle.fab_model.specs.declared.tiles.Bel.{Bel}
use Rattle.fab_model.specs.Rows.{source_bits, dest_bits, bit_name, IsWireRow}

pub record PlainTile : Type 0 where
  pub name : List ℕ
  pub rows : List WireRow
  pub bels : List Bel
  pub pairs : List Pair
  pub table : List (ℕ × ℕ)

-- a tile without pairs and without places
abbrev pub bare_tile : (name : List ℕ) → List WireRow → List Bel → PlainTile
bare_tile name rows bels = record { name = name; rows = rows; bels = bels; pairs = []; table = [] }

-- the same tile with other pairs, and with other places
abbrev pub with_pairs : PlainTile → List Pair → PlainTile
with_pairs tile pairs = record { name = tile.name; rows = tile.rows; bels = tile.bels; pairs = pairs; table = tile.table }

abbrev pub with_table : PlainTile → List (ℕ × ℕ) → PlainTile
with_table tile table = record { name = tile.name; rows = tile.rows; bels = tile.bels; pairs = tile.pairs; table = table }

abbrev option_passes : {X : Type 0} → (X → Bool) → Option X → Bool
option_passes test None = false
option_passes test (Some x) = test x

-- ---- matrix names

-- a wire of a tile: a bit of a row, or a pin of a BEL, whose number counts the inputs first
pub data TileWire : Type 0 where
  source_bit : (row : WireRow) (bit : ℕ) → TileWire
  dest_bit : (row : WireRow) (bit : ℕ) → TileWire
  bel_pin : (bel : Bel) (pin : ℕ) → TileWire

-- f 0, f 1 and so on, n items in all
unfoldable pub counted : {X : Type 0} → (n : ℕ) → (ℕ → X) → List X
counted zero f = []
counted (suc n) f = f 0 ∷ counted n (λ i. f (suc i))

abbrev pub row_wires : WireRow → List TileWire
row_wires row = counted (source_bits row) (source_bit row) ++ counted (dest_bits row) (dest_bit row)

abbrev pub bel_wires : Bel → List TileWire
bel_wires bel = counted (length (pin_names bel.kind)) (bel_pin bel)

-- the wires of a tile in the order of their numbers: row by row its source bits and its destination bits, then BEL by BEL
-- its input pins and its output pins
abbrev pub tile_wires : PlainTile → List TileWire
tile_wires tile = flat_map row_wires tile.rows ++ flat_map bel_wires tile.bels

abbrev pub wire_name : TileWire → List ℕ
wire_name (source_bit row bit) = bit_name row.source bit
wire_name (dest_bit row bit) = bit_name row.dest bit
wire_name (bel_pin bel pin) = bel.prefix ++ slice_index_or (pin_names bel.kind) pin []

-- the matrix names of a tile, each at its number
abbrev pub matrix_names : PlainTile → List (List ℕ)
matrix_names tile = map wire_name (tile_wires tile)

-- the switch matrix drives source bits and input pins, which are its outputs; all other wires are its inputs
abbrev pub is_matrix_output : TileWire → Bool
is_matrix_output (source_bit row bit) = true
is_matrix_output (dest_bit row bit) = false
is_matrix_output (bel_pin bel pin) = nat_lt pin (input_count bel.kind)

-- ---- what tables promise of a tile

-- whether the wire of this number is there and passes the test
abbrev pub wire_passes : (test : TileWire → Bool) → PlainTile → (number : ℕ) → Bool
wire_passes test tile number = option_passes test (slice_get (tile_wires tile) number)

-- a pair leads from a matrix input to a matrix output
pub record IsPair (tile : PlainTile) (pair : Pair) : Type 0 where
  pub output : wire_passes is_matrix_output tile pair.output ≡ true
  pub input : wire_passes (λ wire. not (is_matrix_output wire)) tile pair.input ≡ true

pub record IsTile (tile : PlainTile) : Type 0 where
  pub rows : All IsWireRow tile.rows
  pub apart : AllPairs (λ first second. first ≢ second) (matrix_names tile)
  pub few : length (matrix_names tile) ≤ 4096
  pub pairs : All (IsPair tile) tile.pairs

-- ---- configuration bits

-- the pairs by number, the output first
abbrev pub pair_numbers : Pair → ℕ × ℕ
pair_numbers pair = (pair.output, pair.input)

abbrev pub numbered_pairs : PlainTile → List (ℕ × ℕ)
numbered_pairs tile = map pair_numbers tile.pairs

-- those of the BELs come first
abbrev pub bel_bits : PlainTile → ℕ
bel_bits tile = sum_by (λ bel. bit_count bel.kind) tile.bels

-- the configuration bits of the BELs before this place
abbrev pub bits_before : List Bel → (place : ℕ) → ℕ
bits_before bels place = sum_by (λ bel. bit_count bel.kind) (take place bels)

-- the first configuration bit of a BEL and how many it has; (0, 0) where there is no such BEL
abbrev pub bel_field : PlainTile → (bel : ℕ) → ℕ × ℕ
bel_field tile bel = option_map_or (λ found. (bits_before tile.bels bel, bit_count found.kind)) (slice_get tile.bels bel) (0, 0)

abbrev pub tile_bits : PlainTile → ℕ
tile_bits tile = bel_bits tile + select_bits nat_eq (numbered_pairs tile)

-- the first configuration bit of a matrix output and how many it has; (0, 0) where it has none
abbrev pub output_field : PlainTile → (output : ℕ) → ℕ × ℕ
output_field tile output =
    let width = field_width nat_eq (numbered_pairs tile) output in
    if nat_eq width 0 then (0, 0) else (bel_bits tile + field_low nat_eq (numbered_pairs tile) output, width)
