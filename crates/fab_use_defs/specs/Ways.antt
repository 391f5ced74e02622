-- The ways of border bits through rows, back from where they end.
use Rattle.std.specs.Prelude.{◌≡◌, ◌<◌, ℕ, ◌+◌, false, [], Some}
use Rattle.fab_meaning.specs.Points.{Point, point}
use Rattle.fab_model.specs.Rows.{is_jump}
use Rattle.fab_model.specs.Tiles.{PlainTile}
use Rattle.fab_model.specs.Wires.{dest_of}
use Rattle.fab_model.specs.Grid.{PlainFabric}
use Rattle.fab_model.specs.Cascade.{PlacedRow, placed_row, previous_row, passing_bits}
use Rattle.fab_text_loads_laws.specs.fab_fabric_Wires.{row_place}
use Rattle.fab_state.specs.fab_implementation.specs.Plain.{PlainImplementation}
use Rattle.fab_text_loads_laws.specs.fab_gen_tile_Names.{begin_name, end_name}
use Rattle.fab_text_loads_laws.specs.fab_fabric_text_defs_Names.{begin_wire_name}
use Rattle.fab_text_loads_laws.specs.fab_drives_laws_Points.{row_path}
use Rattle.fab_use_defs.specs.Design.{IsTreeWire}

-- the rows that a border bit comes through on its way to a row, with its number in each
pub data Passes (fabric : PlainFabric) (here : PlacedRow) (bit : ℕ) : PlacedRow → ℕ → Type 0 where
  ends : Passes fabric here bit here bit
  came : {at previous : PlacedRow} {at_bit : ℕ} → Passes fabric here bit at at_bit → previous_row fabric at ≡ Some previous → at_bit < passing_bits previous.row
      → Passes fabric here bit previous (at_bit + previous.row.count)

-- the port of a tile by which a border bit comes into a row
abbrev pub end_port : PlacedRow → (bit : ℕ) → Point
end_port at bit = point (row_path at) (end_name at.row bit) 0

-- the port of a tile by which it goes out of a row
abbrev pub begin_port : PlacedRow → (bit : ℕ) → Point
begin_port at bit = point (row_path at) (begin_name at.row bit) 0

-- and the wire of the top behind that
abbrev pub begin_wire : PlacedRow → (bit : ℕ) → Point
begin_wire at bit = point [] (begin_wire_name at.place.x at.place.y at.row bit) 0

-- a border bit that comes into a row, here or later on ends as a wire of a net
pub record IsTreeWay (fabric : PlainFabric) (implementation : PlainImplementation) (at : PlacedRow) (at_bit : ℕ) : Type 0 where
  pub x : ℕ
  pub y : ℕ
  pub row : ℕ
  pub bit : ℕ
  pub tile : PlainTile
  pub here : PlacedRow
  pub wire : IsTreeWire fabric implementation x y tile (dest_of row bit)
  pub placed : placed_row fabric (row_place x y row) ≡ Some here
  pub no_jump : is_jump here.row.dir ≡ false
  pub passes : Passes fabric here bit at at_bit
