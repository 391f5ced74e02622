-- What each named point of a design shows, told from the fabric and the implementation alone.
use Rattle.std.specs.Prelude.{◌≡◌, ◌<◌, ℕ, ◌+◌, Bool, true, false, not, List, [], ◌∷◌, ◌++◌, Contains, codes, length, map, take, drop, Option, Some, None, slice_get}
use Rattle.fab_bits.specs.Bits.{number}
use Rattle.fab_kinds.specs.declared.kind.Kind.TheVariants as kinds
use Rattle.fab_kinds.specs.Pins.{input_names}
use Rattle.fab_meaning.specs.Points.{Point, point}
use Rattle.fab_meaning.specs.Settled.{Assignment}
use Rattle.fab_model.specs.declared.tiles.WireRow.{WireRow}
use Rattle.fab_model.specs.Rows.{is_jump, is_named}
use Rattle.fab_model.specs.Tiles.{PlainTile}
use Rattle.fab_model.specs.Wires.{PlainWire, source_of, dest_of, pin_of, IsMatrixOutput}
use Rattle.fab_model.specs.Grid.{PlainFabric, tile_at}
use Rattle.fab_model.specs.Cascade.{PlacedRow, placed_row, previous_row, passing_bits}
use Rattle.fab_text_loads_laws.specs.fab_fabric_Wires.{IsIndexOf, row_place}
use Rattle.fab_text_loads_laws.specs.fab_fabric_wire_Site.{Site}
use Rattle.fab_state.specs.fab_netlist.specs.WellMade.{table_bit}
use Rattle.fab_state.specs.fab_netlist.specs.Packed.{PlainCell, PlainPacked}
use Rattle.fab_state.specs.fab_implementation.specs.Plain.{Edge, PlainTree, PlainImplementation}
use Rattle.fab_text_loads_laws.specs.fab_prim_Ports.{top_name}
use Rattle.fab_text_loads_laws.specs.fab_prim_Modules.{flip_flop_name}
use Rattle.fab_text_loads_laws.specs.fab_gen_tile_Borders.{fixed_bit}
use Rattle.fab_text_loads_laws.specs.fab_gen_tile_TileModule.{matrix_output_names}
use Rattle.fab_text_loads_laws.specs.fab_tile_drives_laws_Stands.{matrix_path, name_of, wire_point}
use Rattle.fab_text_loads_laws.specs.fab_drives_laws_Points.{place_path, row_path}
use Rattle.fab_use_defs.specs.Sites.{bel_point, port_point, top_point, pin_point}
use Rattle.fab_use_defs.specs.Design.{IsTreeWire, IsBound}
use Rattle.fab_use_defs.specs.Ways.{IsTreeWay, end_port, begin_port, begin_wire}

pub data Source : Type 0 where
  -- always this value
  always : Bool → Source
  -- the value of an input of the top
  top_input : Source
  -- what a flip-flop holds
  flip_flop : Source
  -- what another point shows
  shows : Point → Source
  -- the opposite of it
  inverts : Point → Source
  -- the bit of a table at the values of points, the first as least significant
  looks_up : (table : ℕ) → (index : List Point) → Source

-- what a source gives its point
abbrev pub source_value : (inputs held now : Assignment) → Point → Source → Bool
source_value inputs held now p (always bit) = bit
source_value inputs held now p top_input = inputs p
source_value inputs held now p flip_flop = held p
source_value inputs held now p (shows q) = now q
source_value inputs held now p (inverts q) = not (now q)
source_value inputs held now p (looks_up bits qs) = table_bit bits (number (map now qs))

abbrev pub source_reads : Source → List Point
source_reads (always bit) = []
source_reads top_input = []
source_reads flip_flop = []
source_reads (shows q) = q ∷ []
source_reads (inverts q) = q ∷ []
source_reads (looks_up bits qs) = qs

-- ---- cells

-- the points of the index of a cell's table: x, and the used pins behind the first
abbrev pub index_points : Site → PlainCell → List Point
index_points site cell = take (length cell.inputs) (bel_point site (codes "x") ∷ map (bel_point site) (take 3 (drop 1 (input_names kinds.Lut4c))))

-- what the output of a cell shows: its table, or its flip-flop where it has a latch
abbrev pub output_source : Site → (latch : Option ℕ) → Source
output_source site None = shows (bel_point site (codes "t"))
output_source site (Some init) = shows (bel_point site flip_flop_name)

-- ---- all of them

-- A point of the design shows a source.
pub data HasSource (fabric : PlainFabric) (packed : PlainPacked) (implementation : PlainImplementation) : Point → Source → Type 0 where
  -- a wire of a net that is an output of its matrix; its port there, which shows the input that an edge picks; and the ports of inputs
  of_output : {x y : ℕ} {tile : PlainTile} {plain : PlainWire} → IsTreeWire fabric implementation x y tile plain → IsMatrixOutput tile plain
      → HasSource fabric packed implementation (wire_point (place_path x y) tile plain) (shows (point (matrix_path (place_path x y)) (name_of tile plain) 0))
  of_edge : {tree : PlainTree} {edge : Edge} {x y : ℕ} {tile : PlainTile} {output input : PlainWire} → Contains implementation.trees tree → Contains tree.edges edge
      → tile_at fabric x y ≡ Some tile → IsIndexOf fabric edge.1.0 x y output → IsMatrixOutput tile output → IsIndexOf fabric edge.0.0 x y input
      → HasSource fabric packed implementation (point (matrix_path (place_path x y)) (name_of tile output) 0) (shows (point (matrix_path (place_path x y)) (name_of tile input) 0))
  of_input : {x y : ℕ} {tile : PlainTile} {plain : PlainWire} → IsTreeWire fabric implementation x y tile plain → (IsMatrixOutput tile plain → ⊥) → 0 < length (matrix_output_names tile)
      → HasSource fabric packed implementation (point (matrix_path (place_path x y)) (name_of tile plain) 0) (shows (wire_point (place_path x y) tile plain))
  -- bits of jumps: constants, and copies of source bits
  constant_bit : {x y row bit : ℕ} {tile : PlainTile} {found : WireRow} → IsTreeWire fabric implementation x y tile (dest_of row bit) → slice_get tile.rows row ≡ Some found
      → is_jump found.dir ≡ true → is_named found.source ≡ false → HasSource fabric packed implementation (wire_point (place_path x y) tile (dest_of row bit)) (always (fixed_bit found.dest))
  jump_bit : {x y row bit : ℕ} {tile : PlainTile} {found : WireRow} → IsTreeWire fabric implementation x y tile (dest_of row bit) → slice_get tile.rows row ≡ Some found
      → is_jump found.dir ≡ true → is_named found.source ≡ true
      → HasSource fabric packed implementation (wire_point (place_path x y) tile (dest_of row bit)) (shows (wire_point (place_path x y) tile (source_of row bit)))
  -- the way of a border bit, back to the source bit where it begins
  end_bit : {x y row bit : ℕ} {tile : PlainTile} {here : PlacedRow} → IsTreeWire fabric implementation x y tile (dest_of row bit) → placed_row fabric (row_place x y row) ≡ Some here
      → is_jump here.row.dir ≡ false → HasSource fabric packed implementation (wire_point (place_path x y) tile (dest_of row bit)) (shows (end_port here bit))
  into : {at previous : PlacedRow} {at_bit : ℕ} → IsTreeWay fabric implementation at at_bit → previous_row fabric at ≡ Some previous
      → HasSource fabric packed implementation (end_port at at_bit) (shows (begin_wire previous at_bit))
  across : {at previous : PlacedRow} {at_bit : ℕ} → IsTreeWay fabric implementation at at_bit → previous_row fabric at ≡ Some previous
      → HasSource fabric packed implementation (begin_wire previous at_bit) (shows (begin_port previous at_bit))
  passing_on : {at previous : PlacedRow} {at_bit : ℕ} → IsTreeWay fabric implementation at at_bit → previous_row fabric at ≡ Some previous → at_bit < passing_bits previous.row
      → HasSource fabric packed implementation (begin_port previous at_bit) (shows (end_port previous (at_bit + previous.row.count)))
  beginning : {at previous : PlacedRow} {at_bit : ℕ} (bit : ℕ) → IsTreeWay fabric implementation at at_bit → previous_row fabric at ≡ Some previous → at_bit ≡ passing_bits previous.row + bit
      → HasSource fabric packed implementation (begin_port previous at_bit) (shows (wire_point (row_path previous) previous.tile (source_of previous.place.row bit)))
  -- cells, where pin 5 is SR, 6 EN and 7 O
  cell_wire : {cell_number : ℕ} {site : Site} {cell : PlainCell} {tile : PlainTile} → IsBound packed implementation cell_number site cell
      → IsTreeWire fabric implementation site.x site.y tile (pin_of site.bel 7)
      → HasSource fabric packed implementation (pin_point tile site 7) (shows (bel_point site (codes "O")))
  cell_input : {cell_number : ℕ} {site : Site} {cell : PlainCell} {tile : PlainTile} {name : List ℕ} (pin : ℕ) → IsBound packed implementation cell_number site cell
      → tile_at fabric site.x site.y ≡ Some tile → pin < length cell.inputs → slice_get (input_names kinds.Lut4c) pin ≡ Some name
      → HasSource fabric packed implementation (bel_point site name) (shows (pin_point tile site pin))
  cell_reset : {cell_number init : ℕ} {site : Site} {cell : PlainCell} {tile : PlainTile} → IsBound packed implementation cell_number site cell → tile_at fabric site.x site.y ≡ Some tile
      → cell.latch ≡ Some init → HasSource fabric packed implementation (bel_point site (codes "SR")) (shows (pin_point tile site 5))
  cell_enable : {cell_number init : ℕ} {site : Site} {cell : PlainCell} {tile : PlainTile} → IsBound packed implementation cell_number site cell → tile_at fabric site.x site.y ≡ Some tile
      → cell.latch ≡ Some init → HasSource fabric packed implementation (bel_point site (codes "EN")) (shows (pin_point tile site 6))
  cell_index : {cell_number : ℕ} {site : Site} {cell : PlainCell} → IsBound packed implementation cell_number site cell → 0 < length cell.inputs
      → HasSource fabric packed implementation (bel_point site (codes "x")) (shows (bel_point site (codes "I0")))
  cell_table : {cell_number : ℕ} {site : Site} {cell : PlainCell} → IsBound packed implementation cell_number site cell
      → HasSource fabric packed implementation (bel_point site (codes "t")) (looks_up cell.table (index_points site cell))
  cell_output : {cell_number : ℕ} {site : Site} {cell : PlainCell} → IsBound packed implementation cell_number site cell
      → HasSource fabric packed implementation (bel_point site (codes "O")) (output_source site cell.latch)
  cell_register : {cell_number init : ℕ} {site : Site} {cell : PlainCell} → IsBound packed implementation cell_number site cell → cell.latch ≡ Some init
      → HasSource fabric packed implementation (bel_point site flip_flop_name) flip_flop
  -- pads of inputs, where pin 2 is O
  pad_top : {port : List ℕ} {site : Site} → Contains implementation.ins (port, site) → HasSource fabric packed implementation (top_point site top_name) top_input
  pad_tile : {port : List ℕ} {site : Site} → Contains implementation.ins (port, site) → HasSource fabric packed implementation (port_point site top_name) (shows (top_point site top_name))
  pad_bel : {port : List ℕ} {site : Site} → Contains implementation.ins (port, site) → HasSource fabric packed implementation (bel_point site top_name) (shows (port_point site top_name))
  pad_output : {port : List ℕ} {site : Site} → Contains implementation.ins (port, site) → HasSource fabric packed implementation (bel_point site (codes "O")) (shows (bel_point site top_name))
  pad_wire : {port : List ℕ} {site : Site} {tile : PlainTile} → Contains implementation.ins (port, site) → tile_at fabric site.x site.y ≡ Some tile
      → HasSource fabric packed implementation (pin_point tile site 2) (shows (bel_point site (codes "O")))
  -- pads of outputs, where pin 0 is I
  shown_bel : {port : List ℕ} {site : Site} {tile : PlainTile} → Contains implementation.outs (port, site) → tile_at fabric site.x site.y ≡ Some tile
      → HasSource fabric packed implementation (bel_point site (codes "I")) (shows (pin_point tile site 0))
  shown_top : {port : List ℕ} {site : Site} → Contains implementation.outs (port, site) → HasSource fabric packed implementation (bel_point site (codes "I_top")) (shows (bel_point site (codes "I")))
  shown_tile : {port : List ℕ} {site : Site} → Contains implementation.outs (port, site) → HasSource fabric packed implementation (port_point site (codes "I_top")) (shows (bel_point site (codes "I_top")))
  shown_outside : {port : List ℕ} {site : Site} → Contains implementation.outs (port, site) → HasSource fabric packed implementation (top_point site (codes "I_top")) (shows (port_point site (codes "I_top")))
  -- the direction of all pads, where pin 1 is T
  turned_bel : {port : List ℕ} {site : Site} {tile : PlainTile} → Contains (implementation.ins ++ implementation.outs) (port, site) → tile_at fabric site.x site.y ≡ Some tile
      → HasSource fabric packed implementation (bel_point site (codes "T")) (shows (pin_point tile site 1))
  turned_top : {port : List ℕ} {site : Site} → Contains (implementation.ins ++ implementation.outs) (port, site)
      → HasSource fabric packed implementation (bel_point site (codes "T_top")) (inverts (bel_point site (codes "T")))
  turned_tile : {port : List ℕ} {site : Site} → Contains (implementation.ins ++ implementation.outs) (port, site)
      → HasSource fabric packed implementation (port_point site (codes "T_top")) (shows (bel_point site (codes "T_top")))
  turned_outside : {port : List ℕ} {site : Site} → Contains (implementation.ins ++ implementation.outs) (port, site)
      → HasSource fabric packed implementation (top_point site (codes "T_top")) (shows (port_point site (codes "T_top")))
