-- Where the wires of a fabric stand in its text, and the points on which each of them rests.
use Rattle.std.specs.Prelude.{◌≡◌, ◌≤◌, ◌<◌, ℕ, ◌+◌, false, [], ◌∷◌, slice_get, Some}
use Rattle.fab_kinds.specs.Pins.{input_count}
use Rattle.fab_fabric_text_defs.specs.fab_meaning_Points.{Path, Point, point}
use Rattle.fab_fabric_text_defs.specs.fab_meaning_Settled.{Assignment}
use Rattle.fab_fabric_text_defs.specs.fab_model_tiles_Bel.{Bel}
use Rattle.fab_fabric_text_defs.specs.fab_model_Rows.{is_jump}
use Rattle.fab_fabric_text_defs.specs.fab_model_Tiles.{PlainTile}
use Rattle.fab_fabric_text_defs.specs.fab_model_Grid.{PlainFabric, tile_at}
use Rattle.fab_fabric_text_defs.specs.fab_model_Cascade.{PlacedRow, placed_row, previous_row, passing_bits}
use Rattle.fab_fabric_text_defs.specs.fab_model_Wires.{PlainWire, dest_of, pin_of, IsMatrixOutput}
use Rattle.fab_fabric_text_defs.specs.fab_model_Drive.{PlainBits}
use Rattle.fab_fabric_text_defs.specs.fab_fabric_Names.{place_name}
use Rattle.fab_fabric_text_defs.specs.fab_prim_Ports.{top_name}
use Rattle.fab_fabric_text_defs.specs.fab_gen_tile_Names.{begin_name, end_name, pad_name}
use Rattle.fab_fabric_text_defs.specs.Names.{begin_wire_name}
use Rattle.fab_tile_drives_laws.specs.Stands.{wire_point}
use Rattle.fab_tile_drives_laws.specs.Tiles.{ShowsTileBits, IsOwnOfOutput, IsOwnOfPin}

-- the instance of the tile at a place
abbrev pub place_path : (x y : ℕ) → Path
place_path x y = place_name x y ∷ []

-- the configurations of all tiles show these bits
abbrev pub ShowsBits : PlainFabric → PlainBits → Assignment → Type 0
ShowsBits fabric bits now =
    (x y : ℕ) (tile : PlainTile) → tile_at fabric x y ≡ Some tile → ShowsTileBits (place_path x y) tile (bits x y) now

-- ---- cascades

abbrev pub row_path : PlacedRow → Path
row_path here = place_path here.place.x here.place.y

-- the points from a border bit that comes into a row back to the matrix output, or the 0, from which it comes
pub data IsOnWay (fabric : PlainFabric) : (here : PlacedRow) → (bit : ℕ) → Point → Type 0 where
  end_bit : {here : PlacedRow} {bit : ℕ} → IsOnWay fabric here bit (point (row_path here) (end_name here.row bit) 0)
  wire_between : {here previous : PlacedRow} {bit : ℕ} → previous_row fabric here ≡ Some previous
      → IsOnWay fabric here bit (point [] (begin_wire_name previous.place.x previous.place.y previous.row bit) 0)
  begin_bit : {here previous : PlacedRow} {bit : ℕ} → previous_row fabric here ≡ Some previous
      → IsOnWay fabric here bit (point (row_path previous) (begin_name previous.row bit) 0)
  before : {here previous : PlacedRow} {bit : ℕ} {p : Point} → previous_row fabric here ≡ Some previous → bit < passing_bits previous.row
      → IsOnWay fabric previous (bit + previous.row.count) p → IsOnWay fabric here bit p

-- ---- what each wire rests on

-- the pin is an output of the BEL at this place in the tile
pub record IsOutputPin (tile : PlainTile) (bel pin : ℕ) : Type 0 where
  pub found : Bel
  pub stands : slice_get tile.bels bel ≡ Some found
  pub output : input_count found.kind ≤ pin

-- The own points of a wire of the tile at a place: its point there; of a matrix output also those of its configuration bits, its port of the
-- matrix and the port there of the input that it copies; of a border bit that ends in the tile its way through other tiles; and of an output
-- pin those of its configuration bits and of its BEL, and what comes to that from outside.
pub data IsOwn (fabric : PlainFabric) (bits : PlainBits) (x y : ℕ) (tile : PlainTile) : PlainWire → Point → Type 0 where
  itself : {wire : PlainWire} → IsOwn fabric bits x y tile wire (wire_point (place_path x y) tile wire)
  of_output : {wire : PlainWire} {p : Point} → IsMatrixOutput tile wire → IsOwnOfOutput (place_path x y) tile (bits x y) wire p
      → IsOwn fabric bits x y tile wire p
  on_way : {row bit : ℕ} {here : PlacedRow} {p : Point} → placed_row fabric (record { x = x; y = y; row = row }) ≡ Some here
      → is_jump here.row.dir ≡ false → IsOnWay fabric here bit p → IsOwn fabric bits x y tile (dest_of row bit) p
  of_pin : {bel pin : ℕ} {p : Point} → IsOutputPin tile bel pin → IsOwnOfPin (place_path x y) tile bel pin p → IsOwn fabric bits x y tile (pin_of bel pin) p
  from_outside : {bel pin : ℕ} → IsOutputPin tile bel pin → IsOwn fabric bits x y tile (pin_of bel pin) (point (place_path x y) (pad_name bel top_name) 0)
