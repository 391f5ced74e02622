-- The design points: the points of a fabric's text that an implementation uses.
use Rattle.std.specs.Prelude.{◌≡◌, ◌⊎◌, ◌<◌, ℕ, false, List, [], ◌∷◌, ◌++◌, Contains, codes, length, map, take, is_some, Some, if◌then◌else◌}
use Rattle.fab_kinds.specs.declared.kind.Kind.TheVariants as kinds
use Rattle.fab_kinds.specs.Pins.{input_names}
use Rattle.fab_syntax.specs.Plain.{PlainModule}
use Rattle.fab_meaning.specs.Points.{Point, point}
use Rattle.fab_meaning.specs.Loading.{IsLoading}
use Rattle.fab_model.specs.Rows.{is_jump}
use Rattle.fab_model.specs.Tiles.{PlainTile}
use Rattle.fab_model.specs.Wires.{PlainWire, dest_of}
use Rattle.fab_model.specs.Grid.{PlainFabric, tile_at}
use Rattle.fab_model.specs.Cascade.{PlacedRow, placed_row}
use Rattle.fab_text_loads_laws.specs.fab_fabric_Wires.{IsIndexOf, row_place}
use Rattle.fab_text_loads_laws.specs.fab_fabric_wire_Site.{Site}
use Rattle.fab_text_loads_laws.specs.fab_fabric_wire_Wire.{Wire}
use Rattle.fab_state.specs.fab_netlist.specs.Plain.{IsAt}
use Rattle.fab_state.specs.fab_netlist.specs.Packed.{PlainCell, PlainPacked}
use Rattle.fab_state.specs.fab_implementation.specs.Plain.{PlainImplementation}
use Rattle.fab_legal.specs.Nets.{Net, StandsIn}
use Rattle.fab_text_loads_laws.specs.fab_prim_Ports.{top_name}
use Rattle.fab_text_loads_laws.specs.fab_prim_Modules.{flip_flop_name}
use Rattle.fab_text_loads_laws.specs.fab_gen_tile_TileModule.{matrix_output_names}
use Rattle.fab_text_loads_laws.specs.fab_tile_drives_laws_Stands.{matrix_path, name_of, wire_point}
use Rattle.fab_text_loads_laws.specs.fab_drives_laws_Points.{place_path, IsOnWay}
use Rattle.fab_use_defs.specs.Sites.{bel_point, port_point, top_point, pin_point}
use Rattle.fab_use_defs.specs.Configuration.{IsConfigurationPoint}

-- ---- route points

-- a wire of a net of the implementation, as a wire of the tile at a place
pub record IsTreeWire (fabric : PlainFabric) (implementation : PlainImplementation) (x y : ℕ) (tile : PlainTile) (plain : PlainWire) : Type 0 where
  pub net : Net
  pub wire : Wire
  pub stands : StandsIn implementation net wire
  pub is_index : IsIndexOf fabric wire.0 x y plain
  pub tile_is : tile_at fabric x y ≡ Some tile

-- The points of such a wire: in the tile, and its port of the switch matrix where the tile has one; of a border bit that ends there also all
-- points on its way, back to the tile where it begins.
pub data IsRoutePoint (fabric : PlainFabric) (implementation : PlainImplementation) : Point → Type 0 where
  in_tile : {x y : ℕ} {tile : PlainTile} {plain : PlainWire} → IsTreeWire fabric implementation x y tile plain
      → IsRoutePoint fabric implementation (wire_point (place_path x y) tile plain)
  in_matrix : {x y : ℕ} {tile : PlainTile} {plain : PlainWire} → IsTreeWire fabric implementation x y tile plain → 0 < length (matrix_output_names tile)
      → IsRoutePoint fabric implementation (point (matrix_path (place_path x y)) (name_of tile plain) 0)
  between : {x y row bit : ℕ} {tile : PlainTile} {here : PlacedRow} {p : Point} → IsTreeWire fabric implementation x y tile (dest_of row bit)
      → placed_row fabric (row_place x y row) ≡ Some here → is_jump here.row.dir ≡ false → IsOnWay fabric here bit p → IsRoutePoint fabric implementation p

-- ---- cell points

-- a cell of the packed design stands on a site
pub record IsBound (packed : PlainPacked) (implementation : PlainImplementation) (cell_number : ℕ) (site : Site) (cell : PlainCell) : Type 0 where
  pub listed : Contains implementation.cells (cell_number, site)
  pub cell_is : IsAt packed.cells cell_number cell

-- the pins that a cell needs: as many of I0 to I3 as it has inputs, and with a latch SR and EN
abbrev pub required_pins : PlainCell → List (List ℕ)
required_pins cell = take (length cell.inputs) (input_names kinds.Lut4c) ++ (if is_some cell.latch then codes "SR" ∷ codes "EN" ∷ [] else [])

-- In the LUT4c of a cell: these pins, the value t of the table, the output O; x, which leads I0 to the table, where the cell has inputs; and
-- the flip-flop where it has a latch.
pub data IsCellPoint (packed : PlainPacked) (implementation : PlainImplementation) : Point → Type 0 where
  at_pin : {cell_number : ℕ} {site : Site} {cell : PlainCell} {name : List ℕ} → IsBound packed implementation cell_number site cell
      → Contains (required_pins cell) name → IsCellPoint packed implementation (bel_point site name)
  at_table : {cell_number : ℕ} {site : Site} {cell : PlainCell} → IsBound packed implementation cell_number site cell
      → IsCellPoint packed implementation (bel_point site (codes "t"))
  at_output : {cell_number : ℕ} {site : Site} {cell : PlainCell} → IsBound packed implementation cell_number site cell
      → IsCellPoint packed implementation (bel_point site (codes "O"))
  at_index : {cell_number : ℕ} {site : Site} {cell : PlainCell} → IsBound packed implementation cell_number site cell → 0 < length cell.inputs
      → IsCellPoint packed implementation (bel_point site (codes "x"))
  at_flip_flop : {cell_number init : ℕ} {site : Site} {cell : PlainCell} → IsBound packed implementation cell_number site cell
      → cell.latch ≡ Some init → IsCellPoint packed implementation (bel_point site flip_flop_name)

-- ---- pad points

-- The pad of an input port: O_top, which comes in at the top, and O, which goes into the tile by pin 2; T, which comes by pin 1, and T_top,
-- which goes out.
abbrev pub input_pad : PlainTile → Site → List Point
input_pad tile site =
    map (bel_point site) (top_name ∷ codes "O" ∷ codes "T" ∷ codes "T_top" ∷ [])
    ++ (port_point site top_name ∷ port_point site (codes "T_top") ∷ pin_point tile site 2 ∷ pin_point tile site 1
    ∷ top_point site top_name ∷ top_point site (codes "T_top") ∷ [])

-- The pad of an output port: I, which comes by pin 0, and I_top, which goes out at the top; T and T_top as before.
abbrev pub output_pad : PlainTile → Site → List Point
output_pad tile site =
    map (bel_point site) (codes "I" ∷ codes "I_top" ∷ codes "T" ∷ codes "T_top" ∷ [])
    ++ (port_point site (codes "I_top") ∷ port_point site (codes "T_top") ∷ pin_point tile site 0 ∷ pin_point tile site 1
    ∷ top_point site (codes "I_top") ∷ top_point site (codes "T_top") ∷ [])

pub data IsPadPoint (fabric : PlainFabric) (implementation : PlainImplementation) : Point → Type 0 where
  of_input : {port : List ℕ} {site : Site} {tile : PlainTile} {p : Point} → Contains implementation.ins (port, site) → tile_at fabric site.x site.y ≡ Some tile
      → Contains (input_pad tile site) p → IsPadPoint fabric implementation p
  of_output : {port : List ℕ} {site : Site} {tile : PlainTile} {p : Point} → Contains implementation.outs (port, site) → tile_at fabric site.x site.y ≡ Some tile
      → Contains (output_pad tile site) p → IsPadPoint fabric implementation p

-- ---- all of them

-- those that the implementation uses beside the configuration
abbrev pub IsSourced : PlainFabric → PlainPacked → PlainImplementation → Point → Type 0
IsSourced fabric packed implementation p = IsRoutePoint fabric implementation p ⊎ (IsCellPoint packed implementation p ⊎ IsPadPoint fabric implementation p)

-- all that have names
abbrev pub IsOfDesign : PlainFabric → PlainPacked → PlainImplementation → Point → Type 0
IsOfDesign fabric packed implementation p = IsConfigurationPoint fabric p ⊎ IsSourced fabric packed implementation p

-- and all loading points, of which the inner ones of the loader have the names that its text gives them
abbrev pub IsDesignPoint : PlainFabric → List PlainModule → PlainPacked → PlainImplementation → Point → Type 0
IsDesignPoint fabric text packed implementation p = IsOfDesign fabric packed implementation p ⊎ IsLoading text p
