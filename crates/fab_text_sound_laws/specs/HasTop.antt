-- Modules among which are those of which a fabric's top has instances.
use Rattle.std.specs.Prelude.{◌≡◌, ◌⊎◌, ℕ, All, List, Some}
use Rattle.fab_syntax.specs.Plain.{PlainModule}
use Rattle.fab_syntax.specs.Declarations.{module_named}
use Rattle.fab_syntax.specs.Sound.{ServesAsClock}
use Rattle.fab_meaning.specs.Runs.{clock_name, user_clock_name}
use Rattle.fab_model.specs.Tiles.{PlainTile}
use Rattle.fab_model.specs.Grid.{PlainFabric, tile_at}
use Rattle.fab_drives_laws.specs.fab_gen_tile_Names.{tile_module_name}
use Rattle.fab_drives_laws.specs.fab_gen_tile_TileModule.{tile_module}
use Rattle.fab_drives_laws.specs.fab_fabric_text_defs_Mode.{text_mode}
use Rattle.fab_drives_laws.specs.fab_fabric_text_defs_Texts.{loaders_of}

-- By their names are found the loaders, and the module of each tile that stands at some place.
pub record HasTopModules (modules : List PlainModule) (fabric : PlainFabric) : Type 0 where
  pub loaders_are : All (λ loader. module_named modules loader.name ≡ Some loader) (loaders_of (text_mode fabric) fabric.rows)
  pub tiles_are : (x y : ℕ) (tile : PlainTile) → tile_at fabric x y ≡ Some tile →
      module_named modules (tile_module_name tile) ≡ Some (tile_module (text_mode fabric) tile)

-- No port of these modules but CLK of a loader, and UserCLK and CLK of a tile, serves as a clock.
pub record HasTopClocks (text : List PlainModule) (fabric : PlainFabric) : Type 0 where
  pub of_loaders : All (λ loader. (port : List ℕ) → ServesAsClock text loader port → port ≡ clock_name)
      (loaders_of (text_mode fabric) fabric.rows)
  pub of_tiles : (x y : ℕ) (tile : PlainTile) → tile_at fabric x y ≡ Some tile →
      (port : List ℕ) → ServesAsClock text (tile_module (text_mode fabric) tile) port → (port ≡ user_clock_name) ⊎ (port ≡ clock_name)
