-- What drives each wire of a fabric under its configuration bits.
use Rattle.std.specs.Prelude.{◌≡◌, ◌≢◌, ℕ, ◌+◌, Bool, not, ◌&&◌, List, [], ◌∷◌, All, Contains, codes, bytes_eq, nat_eq, nat_lt, Option, Some, None, slice_get, slice_index_or, if◌then◌else◌}
use Rattle.std.specs.Option.{option_map_or, option_and_then}
use Rattle.fab_kinds.specs.fab_bits.specs.Bits.{number, first_bits}
use Rattle.fab_kinds.specs.Pins.{input_count}
use Rattle.fab_select.specs.Selection.{inputs_of}
use Rattle.fab_model.specs.declared.tiles.WireRow.{WireRow}
use Rattle.fab_model.specs.declared.tiles.Bel.{Bel}
use Rattle.fab_model.specs.Rows.{is_jump, is_named}
use Rattle.fab_model.specs.Tiles.{PlainTile, numbered_pairs, output_field}
use Rattle.fab_model.specs.Wires.{PlainWire, source_of, dest_of, pin_of, plain_wires, wire_number}
use Rattle.fab_model.specs.Grid.{PlainFabric, tile_at}
use Rattle.fab_model.specs.Joins.{RowPlace}
use Rattle.fab_model.specs.Cascade.{join_from}

pub data PlainDrive : Type 0 where
  zero_bit : PlainDrive
  one_bit : PlainDrive
  -- the wire has the value of a wire of the tile at a place
  copy : (x y : ℕ) → PlainWire → PlainDrive
  -- the wire is an output pin of a BEL of the tile at a place
  bel_output : (x y bel pin : ℕ) → PlainDrive

-- the configuration bits of each place, by their numbers
abbrev pub PlainBits : Type 0
PlainBits = (x y bit : ℕ) → Bool

-- ---- matrix outputs

-- the select bits of a matrix output, the least significant first
abbrev pub select_field : PlainTile → (ℕ → Bool) → (output : ℕ) → List Bool
select_field tile bits output =
    let field = output_field tile output in first_bits field.1 (λ place. bits (field.0 + place))

abbrev pub select_value : PlainTile → (ℕ → Bool) → (output : ℕ) → ℕ
select_value tile bits output = number (select_field tile bits output)

-- the input numbers of a matrix output, in the order of its pairs
abbrev pub matrix_inputs : PlainTile → (output : ℕ) → List ℕ
matrix_inputs tile output = inputs_of nat_eq (numbered_pairs tile) output

-- the input at a number, and the first one where there are fewer
abbrev pub input_at : List ℕ → ℕ → Option ℕ
input_at [] n = None
input_at (first ∷ inputs) n = Some (slice_index_or (first ∷ inputs) n first)

abbrev pub copy_or_zero : (x y : ℕ) → Option PlainWire → PlainDrive
copy_or_zero x y None = zero_bit
copy_or_zero x y (Some wire) = copy x y wire

-- a matrix output copies the input that its select bits pick
abbrev pub matrix_drive : (ℕ → Bool) → (x y : ℕ) → PlainTile → (output : ℕ) → PlainDrive
matrix_drive bits x y tile output =
    let input = input_at (matrix_inputs tile output) (select_value tile bits output) in
    copy_or_zero x y (option_and_then (slice_get (plain_wires tile)) input)

-- ---- destination bits

-- a jump without a source is a constant, by the name of its destination
abbrev pub constant : Option (List ℕ) → PlainDrive
constant None = zero_bit
constant (Some name) = if bytes_eq name (codes "VCC") then one_bit else zero_bit

abbrev pub joined_drive : Option (RowPlace × ℕ) → PlainDrive
joined_drive None = zero_bit
joined_drive (Some found) = copy found.0.x found.0.y (source_of found.0.row found.1)

-- a destination bit copies the source bit that is joined to it
abbrev pub dest_drive : PlainFabric → RowPlace → (bit : ℕ) → Option WireRow → PlainDrive
dest_drive fabric there bit None = zero_bit
dest_drive fabric there bit (Some row) =
    if is_jump row.dir && not (is_named row.source) then constant row.dest else joined_drive (join_from fabric there bit)

-- ---- all wires

-- an input pin is a matrix output, and an output pin is driven by its BEL
abbrev pub pin_drive : (ℕ → Bool) → (x y : ℕ) → PlainTile → (bel pin : ℕ) → Option Bel → PlainDrive
pin_drive bits x y tile bel pin None = zero_bit
pin_drive bits x y tile bel pin (Some found) =
    if nat_lt pin (input_count found.kind) then matrix_drive bits x y tile (wire_number tile (pin_of bel pin))
    else bel_output x y bel pin

abbrev pub tile_drive : PlainFabric → (ℕ → Bool) → (x y : ℕ) → PlainWire → PlainTile → PlainDrive
tile_drive fabric bits x y (source_of row bit) tile = matrix_drive bits x y tile (wire_number tile (source_of row bit))
tile_drive fabric bits x y (dest_of row bit) tile =
    dest_drive fabric (record { x = x; y = y; row = row }) bit (slice_get tile.rows row)
tile_drive fabric bits x y (pin_of bel pin) tile = pin_drive bits x y tile bel pin (slice_get tile.bels bel)

-- what drives a wire of the tile at a place; an empty place has no wires
abbrev pub drive : PlainFabric → PlainBits → (x y : ℕ) → PlainWire → PlainDrive
drive fabric bits x y wire = option_map_or (tile_drive fabric (bits x y) x y wire) (tile_at fabric x y) zero_bit

-- ---- pairs

-- a pair of the tile joins an output of its matrix to an input
abbrev pub IsPaired : PlainTile → (output input : PlainWire) → Type 0
IsPaired tile output input =
    Contains tile.pairs (record { output = wire_number tile output; input = wire_number tile input })

-- a wire of the tile at a place is copied by an output with which it is paired there
pub record CopiesPaired (x y : ℕ) (tile : PlainTile) (output : PlainWire) (to_x to_y : ℕ) (to : PlainWire) : Type 0 where
  pub x_is : x ≡ to_x
  pub y_is : y ≡ to_y
  pub paired : IsPaired tile output to

-- no pair of the tile joins a wire to itself
abbrev pub ArePairsApart : PlainTile → Type 0
ArePairsApart tile = All (λ pair. pair.output ≢ pair.input) tile.pairs
