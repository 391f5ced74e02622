-- The module of a tile: its matrix names as wires, the border bits of its rows, and the instances of its configuration, its switch
-- matrix and its BELs.
use Rattle.std.specs.Prelude.{ℕ, zero, suc, ◌+◌, Bool, true, false, not, List, [], ◌∷◌, ◌++◌, map, filter, nat_eq}
use Rattle.std.specs.List.{flat_map, enumerate_from}
use Rattle.fab_kinds.specs.declared.kind.Kind.{Kind}
use Rattle.fab_kinds.specs.Pins.{input_names, output_names, bit_count}
use Rattle.fab_syntax.specs.declared.tree.Shape.TheVariants.{Scalar, Vector}
use Rattle.fab_syntax.specs.declared.tree.Port.{Port}
use Rattle.fab_syntax.specs.Plain.{PlainJoin, PlainItem, PlainModule, variable, part, wire, instance}
use Rattle.fab_matrix.specs.fab_meaning.specs.Runs.{user_clock_name}
use Rattle.fab_select.specs.Selection.{select_bits}
use Rattle.fab_model.specs.declared.mode.Mode.{Mode}
use Rattle.fab_model.specs.declared.mode.Mode.TheVariants as modes
use Rattle.fab_model.specs.declared.tiles.Bel.{Bel}
use Rattle.fab_model.specs.Tiles.{PlainTile, TileWire, tile_wires, wire_name, matrix_names, is_matrix_output, numbered_pairs, bel_bits, tile_bits, bits_before}
use Rattle.fab_matrix.specs.fab_meaning.specs.Ports.{scalar, config_name}
use Rattle.fab_prim.specs.Ports.{clock_names, top_inputs, top_outputs}
use Rattle.fab_prim.specs.Modules.{module_name}
use Rattle.fab_gen_tile.specs.Names.{config_module_name, matrix_module_name, tile_module_name, config_instance_name, matrix_instance_name, bel_instance_name, bits_name, pad_name, port_join, same_join}
use Rattle.fab_gen_tile.specs.Borders.{border_ports, row_assigns}
use Rattle.fab_gen_tile.specs.ConfigModule.{config_ports, chain_end}

-- ---- ports

-- the ports of a BEL to the outside: a pad has some
abbrev pub pad_ports : (place : ℕ) → Kind → List Port
pad_ports place kind =
    map (λ port. scalar true (pad_name place port)) (top_inputs kind) ++ map (λ port. scalar false (pad_name place port)) (top_outputs kind)

-- those of all BELs, each with its place in the tile
abbrev pub bels_ports : List Bel → List Port
bels_ports bels = flat_map (λ placed. pad_ports placed.0 placed.1.kind) (enumerate_from 0 bels)

abbrev pub tile_ports : Mode → PlainTile → List Port
tile_ports mode tile =
    scalar true user_clock_name ∷ (config_ports mode
    ++ (flat_map border_ports tile.rows ++ bels_ports tile.bels))

-- ---- configuration and matrix

-- the wire of the configuration bits, where there are any
abbrev pub bits_wire : (bits : ℕ) → List PlainItem
bits_wire zero = []
bits_wire (suc n) = wire (Vector (suc n)) bits_name ∷ []

abbrev pub config_joins : Mode → List PlainJoin
config_joins mode = map (λ port. same_join port.name) (config_ports mode) ++ port_join config_name (variable bits_name) ∷ []

-- what stands in a tile without configuration bits: in a chain what comes in goes out
abbrev pub no_config : Mode → List PlainItem
no_config modes.Frames = []
no_config modes.Chain = chain_end 0 ∷ []

-- the configuration, where there are bits
abbrev pub config_instances : Mode → PlainTile → (bits : ℕ) → List PlainItem
config_instances mode tile zero = no_config mode
config_instances mode tile (suc n) = instance (config_module_name tile) config_instance_name (config_joins mode) ∷ []

-- so many configuration bits from the bit `low` on go to the port of an instance, where there are any
abbrev pub bits_join : (low bits : ℕ) → List PlainJoin
bits_join low zero = []
bits_join low (suc n) = port_join config_name (part bits_name (low + n) low) ∷ []

-- whether a wire is on a side of the switch matrix: an output of it, or an input
abbrev pub is_on_side : (output : Bool) → TileWire → Bool
is_on_side true candidate = is_matrix_output candidate
is_on_side false candidate = not (is_matrix_output candidate)

-- the names of a side among wires
abbrev pub side_names : (output : Bool) → List TileWire → List (List ℕ)
side_names output wires = map wire_name (filter (is_on_side output) wires)

abbrev pub matrix_input_names : PlainTile → List (List ℕ)
matrix_input_names tile = side_names false (tile_wires tile)

abbrev pub matrix_output_names : PlainTile → List (List ℕ)
matrix_output_names tile = side_names true (tile_wires tile)

-- its select bits stand behind those of the BELs
abbrev pub matrix_joins : PlainTile → List PlainJoin
matrix_joins tile =
    map same_join (matrix_input_names tile)
    ++ (bits_join (bel_bits tile) (select_bits nat_eq (numbered_pairs tile)) ++ map same_join (matrix_output_names tile))

-- the switch matrix, where it has an output
abbrev pub matrix_instances : PlainTile → (outputs : List (List ℕ)) → List PlainItem
matrix_instances tile [] = []
matrix_instances tile (output ∷ outputs) = instance (matrix_module_name tile) matrix_instance_name (matrix_joins tile) ∷ []

-- ---- BELs

-- a pin is joined to its matrix name
abbrev pub pin_join : Bel → (pin : List ℕ) → PlainJoin
pin_join bel pin = port_join pin (variable (bel.prefix ++ pin))

abbrev pub pad_join : (place : ℕ) → (port : List ℕ) → PlainJoin
pad_join place port = port_join port (variable (pad_name place port))

-- in the order of the ports of the kind's module, with the configuration bits from the bit `low` on
abbrev pub bel_joins : (place low : ℕ) → Bel → List PlainJoin
bel_joins place low bel =
    map (pin_join bel) (input_names bel.kind)
    ++ (map same_join (clock_names bel.kind)
    ++ (bits_join low (bit_count bel.kind)
    ++ (map (pad_join place) (top_inputs bel.kind)
    ++ (map (pin_join bel) (output_names bel.kind)
    ++ map (pad_join place) (top_outputs bel.kind)))))

abbrev pub bel_instance : (place low : ℕ) → Bel → PlainItem
bel_instance place low bel = instance (module_name bel.kind) (bel_instance_name place) (bel_joins place low bel)

abbrev pub bel_instances : List Bel → List PlainItem
bel_instances bels = map (λ placed. bel_instance placed.0 (bits_before bels placed.0) placed.1) (enumerate_from 0 bels)

-- ---- the module

abbrev pub tile_items : Mode → PlainTile → List PlainItem
tile_items mode tile =
    map (wire Scalar) (matrix_names tile)
    ++ (bits_wire (tile_bits tile)
    ++ (flat_map row_assigns tile.rows
    ++ (config_instances mode tile (tile_bits tile)
    ++ (matrix_instances tile (matrix_output_names tile)
    ++ bel_instances tile.bels))))

abbrev pub tile_module : Mode → PlainTile → PlainModule
tile_module mode tile = record { name = tile_module_name tile; ports = tile_ports mode tile; items = tile_items mode tile }
