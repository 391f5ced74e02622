-- Where the parts of a tile stand in a text.
use Rattle.std.specs.Prelude.{◌≡◌, ◌<◌, ℕ, true, List, [], ◌∷◌, All, length, Some}
use Rattle.std.specs.Option.{option_map_or}
use Rattle.fab_gen_tile.specs.fab_syntax.specs.Plain.{PlainModule}
use Rattle.fab_gen_tile.specs.fab_syntax.specs.Declarations.{module_named}
use Rattle.fab_gen_tile.specs.fab_meaning.specs.Points.{Path, Point, point, module_at}
use Rattle.fab_gen_tile.specs.fab_meaning.specs.Settled.{Assignment, IsSettledOn}
use Rattle.fab_gen_tile.specs.fab_meaning.specs.Reads.{is_declared}
use Rattle.fab_gen_tile.specs.fab_prim.specs.Modules.{module_name, module_of_kind}
use Rattle.fab_gen_tile.specs.fab_model.specs.declared.mode.Mode.{Mode}
use Rattle.fab_gen_tile.specs.fab_model.specs.Tiles.{PlainTile, wire_name, tile_bits}
use Rattle.fab_gen_tile.specs.fab_model.specs.Wires.{PlainWire, wire_of}
use Rattle.fab_gen_tile.specs.Names.{config_module_name, matrix_module_name, matrix_instance_name, bel_instance_name}
use Rattle.fab_gen_tile.specs.ConfigModule.{config_module}
use Rattle.fab_gen_tile.specs.MatrixModule.{matrix_module}
use Rattle.fab_gen_tile.specs.TileModule.{tile_module, matrix_output_names}

-- The instance at a path is the tile, and its text has the modules of the tile's configuration, of its switch matrix and of its BELs.
pub record TileStands (mode : Mode) (text : List PlainModule) (path : Path) (tile : PlainTile) : Type 0 where
  pub tile_is : module_at text path ≡ Some (tile_module mode tile)
  pub config_is : 0 < tile_bits tile → module_named text (config_module_name tile) ≡ Some (config_module mode tile)
  pub matrix_is : 0 < length (matrix_output_names tile) → module_named text (matrix_module_name tile) ≡ Some (matrix_module tile)
  pub kinds_are : All (λ bel. module_named text (module_name bel.kind) ≡ Some (module_of_kind bel.kind)) tile.bels

-- ---- points

abbrev pub matrix_path : Path → Path
matrix_path path = matrix_instance_name ∷ path

-- the instance of the BEL at a place in the tile
abbrev pub bel_path : Path → (bel : ℕ) → Path
bel_path path bel = bel_instance_name bel ∷ path

-- the matrix name of a wire
abbrev pub name_of : PlainTile → PlainWire → List ℕ
name_of tile wire = option_map_or wire_name (wire_of tile wire) []

-- the point of a wire in the tile
abbrev pub wire_point : Path → PlainTile → PlainWire → Point
wire_point path tile wire = point path (name_of tile wire) 0

-- settled on those of these points that the text declares
abbrev pub IsSettledOnDeclared : (Point → Type 0) → List PlainModule → (inputs held now : Assignment) → Type 0
IsSettledOnDeclared Has text inputs held now = IsSettledOn (λ p. Has p × (is_declared text p ≡ true)) text inputs held now
