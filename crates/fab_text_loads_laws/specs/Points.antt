-- The loading points of a fabric's text by their names.
use Rattle.std.specs.Prelude.{◌≡◌, ℕ, List, [], ◌∷◌, ◌++◌, map, Contains, Some}
use Rattle.fab_syntax.specs.declared.tree.Port.{Port}
use Rattle.fab_meaning.specs.Points.{Path, Point}
use Rattle.fab_drives_laws.specs.fab_model_mode_Mode.{Mode}
use Rattle.fab_drives_laws.specs.fab_model_mode_Mode_TheVariants as modes
use Rattle.fab_drives_laws.specs.fab_model_Tiles.{PlainTile, counted}
use Rattle.fab_drives_laws.specs.fab_model_Grid.{PlainFabric, tile_at}
use Rattle.fab_drives_laws.specs.fab_gen_tile_Names.{config_instance_name, bits_name}
use Rattle.fab_drives_laws.specs.fab_gen_tile_ConfigModule.{config_ports}
use Rattle.fab_meaning.specs.Loading.{write_strobe_name, write_data_name}
use Rattle.fab_drives_laws.specs.fab_fabric_text_defs_Names.{loader_instance_name, column_strobe_name, chain_wire_name}
use Rattle.fab_drives_laws.specs.fab_fabric_text_defs_Places.{PlacedTile, placed_tiles}
use Rattle.fab_drives_laws.specs.fab_fabric_text_defs_Mode.{text_mode}
use Rattle.fab_meaning.specs.Runs.{clock_name}
use Rattle.fab_drives_laws.specs.fab_gen_loader_Loader.{address_port, strobe_port, row_port}
use Rattle.fab_drives_laws.specs.Points.{place_path}

abbrev pub loader_path : Path
loader_path = loader_instance_name ∷ []

abbrev pub config_path : (x y : ℕ) → Path
config_path x y = config_instance_name ∷ place_path x y

-- the top's inputs that carry words, and behind them the wires that the loader drives with the strobes of the columns, or the wires of the chain
abbrev pub top_names : Mode → PlainFabric → List (List ℕ)
top_names modes.Frames fabric =
    clock_name ∷ write_strobe_name ∷ write_data_name ∷ address_port ∷ strobe_port
    ∷ (counted fabric.rows row_port ++ counted fabric.columns column_strobe_name)
top_names modes.Chain fabric =
    clock_name ∷ write_strobe_name ∷ write_data_name ∷ map (λ (placed : PlacedTile). chain_wire_name placed.x placed.y) (placed_tiles fabric)

-- what brings a tile its configuration bits, and these
abbrev pub tile_names : Mode → List (List ℕ)
tile_names mode = map (λ (port : Port). port.name) (config_ports mode) ++ bits_name ∷ []

-- The whole loader, which stands where there are frames, and all configuration modules are loading points, and what joins them.
pub data IsLoadingPoint (fabric : PlainFabric) (p : Point) : Type 0 where
  in_top : p.path ≡ [] → Contains (top_names (text_mode fabric) fabric) p.name → IsLoadingPoint fabric p
  in_loader : p.path ≡ loader_path → IsLoadingPoint fabric p
  in_tile : (x y : ℕ) (tile : PlainTile) → tile_at fabric x y ≡ Some tile → p.path ≡ place_path x y → Contains (tile_names (text_mode fabric)) p.name →
      IsLoadingPoint fabric p
  in_configuration : (x y : ℕ) (tile : PlainTile) → tile_at fabric x y ≡ Some tile → p.path ≡ config_path x y → IsLoadingPoint fabric p
