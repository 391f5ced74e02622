-- The top module of a fabric: what carries the configuration bits to the tiles, and the tiles with the wires between them. The bits come by a
-- loader and the strobes of the columns, or along a chain.
use Rattle.std.specs.Prelude.{ℕ, true, false, List, [], ◌∷◌, ◌++◌, map, Option, Some, None, if◌then◌else◌}
use Rattle.std.specs.List.{flat_map, enumerate_from}
use Rattle.fab_bits.specs.Bits.{digits}
use Rattle.fab_syntax.specs.declared.tree.Shape.{Shape}
use Rattle.fab_syntax.specs.declared.tree.Shape.TheVariants.{Scalar, Vector}
use Rattle.fab_syntax.specs.declared.tree.Op.TheVariants.{And, Equal}
use Rattle.fab_syntax.specs.declared.tree.Port.{Port}
use Rattle.fab_syntax.specs.Plain.{PlainExpr, PlainJoin, PlainItem, PlainModule, constant, variable, part, operation, conditional, wire, assign, instance}
use Rattle.fab_gen_tile.specs.fab_meaning.specs.Runs.{user_clock_name, clock_name}
use Rattle.fab_gen_tile.specs.fab_prim.specs.Ports.{top_inputs, top_outputs}
use Rattle.fab_gen_tile.specs.fab_meaning.specs.Ports.{scalar}
use Rattle.fab_gen_tile.specs.fab_model.specs.declared.mode.Mode.{Mode}
use Rattle.fab_gen_tile.specs.fab_model.specs.declared.mode.Mode.TheVariants as modes
use Rattle.fab_gen_tile.specs.fab_model.specs.declared.tiles.WireRow.{WireRow}
use Rattle.fab_gen_tile.specs.fab_model.specs.declared.tiles.Bel.{Bel}
use Rattle.fab_gen_tile.specs.fab_model.specs.Rows.{is_jump}
use Rattle.fab_gen_tile.specs.fab_model.specs.Tiles.{counted}
use Rattle.fab_gen_tile.specs.fab_model.specs.Grid.{PlainFabric}
use Rattle.fab_gen_tile.specs.fab_model.specs.Cascade.{PlacedRow, previous_row}
use Rattle.fab_fabric.specs.Names.{place_name}
use Rattle.fab_gen_tile.specs.Names.{tile_module_name, frame_data_name, frame_strobe_name, chain_in_name, chain_out_name, begin_name, end_name, pad_name, port_join, same_join}
use Rattle.fab_gen_tile.specs.Borders.{side_border}
use Rattle.fab_gen_tile.specs.fab_meaning.specs.Loading.{write_strobe_name, write_data_name}
use Rattle.fab_gen_loader.specs.Loader.{loader_module_name, address_port, strobe_port, row_port}
use Rattle.fab_fabric_text_defs.specs.Names.{top_module_name, loader_instance_name, pad_port_name, column_strobe_name, chain_wire_name, begin_wire_name}
use Rattle.fab_fabric_text_defs.specs.Mode.{text_mode}
use Rattle.fab_fabric_text_defs.specs.Chain.{chain_source}
use Rattle.fab_fabric_text_defs.specs.Places.{PlacedTile, placed_tiles}

-- ---- ports

-- the ports of a BEL of the tile at a place to the outside: a pad has some
abbrev pub pad_ports : (x y : ℕ) → ℕ × Bel → List Port
pad_ports x y placed =
    map (λ port. scalar true (pad_port_name x y placed.0 port)) (top_inputs placed.1.kind)
    ++ map (λ port. scalar false (pad_port_name x y placed.0 port)) (top_outputs placed.1.kind)

abbrev pub tile_pads : PlacedTile → List Port
tile_pads placed = flat_map (pad_ports placed.x placed.y) (enumerate_from 0 placed.tile.bels)

-- words come whole, or bit by bit
abbrev pub data_shape : Mode → Shape
data_shape modes.Frames = Vector 32
data_shape modes.Chain = Scalar

abbrev pub data_port : Mode → Port
data_port mode = record { input = true; shape = data_shape mode; name = write_data_name }

abbrev pub top_ports : PlainFabric → List Port
top_ports fabric =
    scalar true clock_name ∷ scalar true user_clock_name ∷ scalar true write_strobe_name ∷ data_port (text_mode fabric)
    ∷ flat_map tile_pads (placed_tiles fabric)

-- ---- the loader

-- the loader's outputs: an address, its strobe, and the frame data of each row of tiles
abbrev pub loader_wires : (rows : ℕ) → List PlainItem
loader_wires rows =
    wire (Vector 32) address_port ∷ wire Scalar strobe_port ∷ counted rows (λ y. wire (Vector 32) (row_port y))

abbrev pub loader_joins : (rows : ℕ) → List PlainJoin
loader_joins rows =
    same_join clock_name ∷ same_join write_strobe_name ∷ same_join write_data_name
    ∷ same_join address_port ∷ same_join strobe_port ∷ counted rows (λ y. same_join (row_port y))

abbrev pub loader_instance : (rows : ℕ) → PlainItem
loader_instance rows = instance loader_module_name loader_instance_name (loader_joins rows)

-- ---- strobes

-- the address names the column in its five high bits
abbrev pub names_column : (x : ℕ) → PlainExpr
names_column x = operation Equal (part address_port 31 27) (constant (digits 5 x))

-- (Strobe & (Address[31:27] == x)) ? Address[19:0] : 0, a strobe for each frame
abbrev pub column_strobes : (x : ℕ) → PlainItem
column_strobes x =
    assign (column_strobe_name x)
    (conditional (operation And (variable strobe_port) (names_column x)) (part address_port 19 0) (constant (digits 20 0)))

-- ---- what carries the bits to the tiles

-- the loader with its wires, and the strobes of the columns
abbrev pub frame_items : PlainFabric → List PlainItem
frame_items fabric =
    loader_wires fabric.rows
    ++ (loader_instance fabric.rows
    ∷ (counted fabric.columns (λ x. wire (Vector 20) (column_strobe_name x))
    ++ counted fabric.columns column_strobes))

abbrev pub chain_wire : PlacedTile → PlainItem
chain_wire placed = wire Scalar (chain_wire_name placed.x placed.y)

abbrev pub carrying_items : Mode → PlainFabric → List PlainItem
carrying_items modes.Frames fabric = frame_items fabric
carrying_items modes.Chain fabric = map chain_wire (placed_tiles fabric)

-- ---- wires between tiles

abbrev pub row_begin_wires : (x y : ℕ) → WireRow → List PlainItem
row_begin_wires x y row =
    if is_jump row.dir then [] else counted (side_border row row.source) (λ bit. wire Scalar (begin_wire_name x y row bit))

abbrev pub tile_begin_wires : PlacedTile → List PlainItem
tile_begin_wires placed = flat_map (row_begin_wires placed.x placed.y) placed.tile.rows

-- ---- tiles

-- a bit that comes into a row is that which the joined row next door sends, and 0 where there is none
abbrev pub end_value : Option PlacedRow → (bit : ℕ) → PlainExpr
end_value None bit = constant (false ∷ [])
end_value (Some previous) bit = variable (begin_wire_name previous.place.x previous.place.y previous.row bit)

abbrev pub numbered_row : PlacedTile → (number : ℕ) → WireRow → PlacedRow
numbered_row placed number row =
    record { place = record { x = placed.x; y = placed.y; row = number }; tile = placed.tile; row = row }

abbrev pub row_joins : PlainFabric → PlacedTile → ℕ × WireRow → List PlainJoin
row_joins fabric placed numbered =
    let row = numbered.1 in
    if is_jump row.dir then []
    else counted (side_border row row.source) (λ bit. port_join (begin_name row bit) (variable (begin_wire_name placed.x placed.y row bit)))
    ++ counted (side_border row row.dest) (λ bit. port_join (end_name row bit) (end_value (previous_row fabric (numbered_row placed numbered.0 row)) bit))

abbrev pub pad_joins : (x y : ℕ) → ℕ × Bel → List PlainJoin
pad_joins x y placed =
    map (λ port. port_join (pad_name placed.0 port) (variable (pad_port_name x y placed.0 port))) (top_inputs placed.1.kind)
    ++ map (λ port. port_join (pad_name placed.0 port) (variable (pad_port_name x y placed.0 port))) (top_outputs placed.1.kind)

-- by which its bits come to a tile: frame data and strobes, or what comes along the chain and what goes on
abbrev pub config_joins : Mode → PlainFabric → PlacedTile → List PlainJoin
config_joins modes.Frames fabric placed =
    port_join frame_data_name (variable (row_port placed.y)) ∷ port_join frame_strobe_name (variable (column_strobe_name placed.x)) ∷ []
config_joins modes.Chain fabric placed =
    same_join clock_name ∷ same_join write_strobe_name
    ∷ port_join chain_in_name (variable (chain_source fabric placed.x placed.y))
    ∷ port_join chain_out_name (variable (chain_wire_name placed.x placed.y)) ∷ []

-- in the order of the ports of the tile's module
abbrev pub tile_joins : PlainFabric → PlacedTile → List PlainJoin
tile_joins fabric placed =
    same_join user_clock_name
    ∷ (config_joins (text_mode fabric) fabric placed
    ++ (flat_map (row_joins fabric placed) (enumerate_from 0 placed.tile.rows)
    ++ flat_map (pad_joins placed.x placed.y) (enumerate_from 0 placed.tile.bels)))

abbrev pub tile_instance : PlainFabric → PlacedTile → PlainItem
tile_instance fabric placed = instance (tile_module_name placed.tile) (place_name placed.x placed.y) (tile_joins fabric placed)

-- ---- the module

abbrev pub top_items : PlainFabric → List PlainItem
top_items fabric =
    carrying_items (text_mode fabric) fabric
    ++ (flat_map tile_begin_wires (placed_tiles fabric)
    ++ map (tile_instance fabric) (placed_tiles fabric))

abbrev pub top_module : PlainFabric → PlainModule
top_module fabric = record { name = top_module_name; ports = top_ports fabric; items = top_items fabric }
