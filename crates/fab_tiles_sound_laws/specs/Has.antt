-- Modules among which are those that a tile uses.
use Rattle.std.specs.Prelude.{◌≡◌, ◌<◌, List, All, length, Some}
use Rattle.fab_syntax.specs.Plain.{PlainModule}
use Rattle.fab_syntax.specs.Declarations.{module_named}
use Rattle.fab_prim.specs.Modules.{module_name, module_of_kind}
use Rattle.fab_model.specs.declared.mode.Mode.{Mode}
use Rattle.fab_model.specs.Tiles.{PlainTile, tile_bits}
use Rattle.fab_parts_sound_laws.specs.fab_gen_tile_Names.{config_module_name, matrix_module_name}
use Rattle.fab_parts_sound_laws.specs.fab_gen_tile_ConfigModule.{config_module}
use Rattle.fab_parts_sound_laws.specs.fab_gen_tile_MatrixModule.{matrix_module}
use Rattle.fab_parts_sound_laws.specs.fab_gen_tile_TileModule.{matrix_output_names}

-- By their names are found the tile's configuration where it has bits, its switch matrix where that has an output, and the modules of its BELs.
pub record HasModules (mode : Mode) (modules : List PlainModule) (tile : PlainTile) : Type 0 where
  pub config_is : 0 < tile_bits tile → module_named modules (config_module_name tile) ≡ Some (config_module mode tile)
  pub matrix_is : 0 < length (matrix_output_names tile) → module_named modules (matrix_module_name tile) ≡ Some (matrix_module tile)
  pub kinds_are : All (λ bel. module_named modules (module_name bel.kind) ≡ Some (module_of_kind bel.kind)) tile.bels
