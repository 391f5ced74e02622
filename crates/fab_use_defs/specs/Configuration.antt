-- The points of a fabric's text that hold or carry its configuration, by the names of their instances.
use Rattle.std.specs.Prelude.{◌≡◌, ◌<◌, ℕ, List, [], ◌∷◌, ◌++◌, map, Contains, codes, nat_eq, if◌then◌else◌}
use Rattle.std.specs.List.{flat_map, enumerate_from}
use Rattle.fab_kinds.specs.declared.kind.Kind.TheVariants as kinds
use Rattle.fab_kinds.specs.Pins.{bit_count}
use Rattle.fab_syntax.specs.declared.tree.Port.{Port}
use Rattle.fab_syntax.specs.Declarations.{width}
use Rattle.fab_meaning.specs.Points.{Path, Point, point}
use Rattle.fab_select.specs.Selection.{select_bits}
use Rattle.fab_model.specs.declared.mode.Mode.{Mode}
use Rattle.fab_model.specs.declared.mode.Mode.TheVariants as modes
use Rattle.fab_model.specs.declared.tiles.Bel.{Bel}
use Rattle.fab_model.specs.Tiles.{PlainTile, counted, tile_bits, numbered_pairs}
use Rattle.fab_model.specs.Grid.{PlainFabric}
use Rattle.fab_meaning.specs.Ports.{config_name}
use Rattle.fab_text_loads_laws.specs.fab_gen_tile_Names.{config_instance_name, bits_name, latch_name}
use Rattle.fab_text_loads_laws.specs.fab_gen_tile_ConfigModule.{config_ports}
use Rattle.fab_text_loads_laws.specs.fab_gen_loader_Loader as loader
use Rattle.fab_text_loads_laws.specs.fab_fabric_text_defs_Names.{column_strobe_name, chain_wire_name}
use Rattle.fab_text_loads_laws.specs.fab_fabric_text_defs_Mode.{text_mode}
use Rattle.fab_text_loads_laws.specs.fab_fabric_text_defs_Places.{PlacedTile, placed_tiles}
use Rattle.fab_text_loads_laws.specs.fab_fabric_Sites.{same_kind}
use Rattle.fab_text_loads_laws.specs.fab_tile_drives_laws_Stands.{matrix_path, bel_path}
use Rattle.fab_text_loads_laws.specs.fab_drives_laws_Points.{place_path}
use Rattle.fab_text_loads_laws.specs.Points.{loader_path}

-- a name of an instance, with its width in bits
pub record NamedBits : Type 0 where
  pub path : Path
  pub name : List ℕ
  pub width : ℕ

abbrev pub named_bits : Path → (name : List ℕ) → (width : ℕ) → NamedBits
named_bits path name width = record { path = path; name = name; width = width }

-- a name of no bits is not declared
abbrev pub if_some_bits : NamedBits → List NamedBits
if_some_bits n = if nat_eq n.width 0 then [] else n ∷ []

-- the wires of the top between the loader and the tiles
abbrev pub top_configuration : PlainFabric → List NamedBits
top_configuration fabric =
    named_bits [] loader.address_port 32 ∷ named_bits [] loader.strobe_port 1
    ∷ (counted fabric.rows (λ y. named_bits [] (loader.row_port y) 32) ++ counted fabric.columns (λ x. named_bits [] (column_strobe_name x) 20))

-- the outputs of the loader, and the registers behind them
abbrev pub loader_configuration : PlainFabric → List NamedBits
loader_configuration fabric =
    named_bits loader_path loader.address_port 32 ∷ named_bits loader_path loader.strobe_port 1
    ∷ named_bits loader_path loader.address_register_name 32 ∷ named_bits loader_path loader.strobe_register_name 1
    ∷ (counted fabric.rows (λ y. named_bits loader_path (loader.row_port y) 32) ++ counted fabric.rows (λ y. named_bits loader_path (loader.row_register_name y) 32))

-- the wires of a chain behind its tiles
abbrev pub chain_configuration : PlainFabric → List NamedBits
chain_configuration fabric = map (λ (placed : PlacedTile). named_bits [] (chain_wire_name placed.x placed.y) 1) (placed_tiles fabric)

-- what carries the bits to the tiles
abbrev pub carrying_configuration : Mode → PlainFabric → List NamedBits
carrying_configuration modes.Frames fabric = top_configuration fabric ++ loader_configuration fabric
carrying_configuration modes.Chain fabric = chain_configuration fabric

-- the ports by which the bits come to a tile, and to its configuration module
abbrev pub port_names : Mode → Path → List NamedBits
port_names mode path = map (λ (port : Port). named_bits path port.name (width port.shape)) (config_ports mode)

-- the configuration bits of a tile that has some: its wire, and in its configuration module the ports and what keeps the bits
abbrev pub bits_configuration : Mode → Path → PlainTile → List NamedBits
bits_configuration mode path tile =
    if nat_eq (tile_bits tile) 0 then []
    else named_bits path bits_name (tile_bits tile) ∷ named_bits (config_instance_name ∷ path) config_name (tile_bits tile)
    ∷ (port_names mode (config_instance_name ∷ path) ++ counted (tile_bits tile) (λ bit. named_bits (config_instance_name ∷ path) (latch_name bit) 1))

-- ConfigBits of the switch matrix
abbrev pub matrix_configuration : Path → PlainTile → List NamedBits
matrix_configuration path tile = if_some_bits (named_bits (matrix_path path) config_name (select_bits nat_eq (numbered_pairs tile)))

-- ConfigBits of a BEL, and the table of a LUT4c
abbrev pub bel_configuration : Path → ℕ × Bel → List NamedBits
bel_configuration path placed =
    if_some_bits (named_bits (bel_path path placed.0) config_name (bit_count placed.1.kind))
    ++ (if same_kind placed.1.kind kinds.Lut4c then named_bits (bel_path path placed.0) (codes "init") 16 ∷ [] else [])

abbrev pub tile_configuration : Mode → Path → PlainTile → List NamedBits
tile_configuration mode path tile =
    port_names mode path
    ++ (bits_configuration mode path tile ++ (matrix_configuration path tile ++ flat_map (bel_configuration path) (enumerate_from 0 tile.bels)))

abbrev pub configuration : PlainFabric → List NamedBits
configuration fabric =
    carrying_configuration (text_mode fabric) fabric
    ++ flat_map (λ (placed : PlacedTile). tile_configuration (text_mode fabric) (place_path placed.x placed.y) placed.tile) (placed_tiles fabric)

-- a bit of one of these names
abbrev pub IsConfigurationPoint : PlainFabric → Point → Type 0
IsConfigurationPoint fabric p = (n : NamedBits) × Contains (configuration fabric) n × (p ≡ point n.path n.name p.bit) × (p.bit < n.width)
