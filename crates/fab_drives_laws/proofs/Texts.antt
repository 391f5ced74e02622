-- What the law of drives needs to know of a fabric's text: its top, and that each tile of the fabric stands in it.
use Rattle.std.proofs.Common.{◌≡◌, ℕ, [], List, All, ap, ◌∙◌, Some}
use Rattle.fab_syntax.specs.Plain.{PlainModule}
use Rattle.fab_syntax.specs.Declarations.{module_named}
use Rattle.fab_fabric_text_defs.specs.fab_meaning_Points.{instance_in, module_of, module_at}
use Rattle.fab_fabric_text_defs.specs.fab_model_Tiles.{PlainTile}
use Rattle.fab_fabric_text_defs.specs.fab_model_Grid.{PlainFabric, tile_at}
use Rattle.fab_fabric_text_defs.specs.fab_fabric_Names.{place_name}
use Rattle.fab_fabric_text_defs.specs.fab_fabric_Fabric.{IsFabric}
use Rattle.fab_fabric_text_defs.specs.fab_gen_tile_Names.{tile_module_name}
use Rattle.fab_fabric_text_defs.specs.fab_gen_tile_TileModule.{tile_module}
use Rattle.fab_fabric_text_defs.specs.fab_gen_loader_Loader.{loader_module_name}
use Rattle.fab_fabric_text_defs.specs.Mode.{text_mode}
use Rattle.fab_fabric_text_defs.specs.Top.{top_module}
use Rattle.fab_fabric_text_defs.specs.Text.{fabric_text}
use Rattle.fab_tile_drives_laws.specs.Stands.{TileStands}
use Rattle.fab_drives_laws.specs.Points.{place_path}
use Rattle.fab_drives_laws.proofs.Modules.{top_is_last, tile_found, matrix_found, config_found, kinds_found}
use Rattle.fab_drives_laws.proofs.Instances.{tile_instance_found}

pub record HasFabric (fabric : PlainFabric) (text : List PlainModule) : Type 0 where
  pub top_is : module_at text [] ≡ Some (top_module fabric)
  pub module_is : (x y : ℕ) (tile : PlainTile) → tile_at fabric x y ≡ Some tile → module_named text (tile_module_name tile) ≡ Some (tile_module (text_mode fabric) tile)
  pub stands : (x y : ℕ) (tile : PlainTile) → tile_at fabric x y ≡ Some tile → TileStands (text_mode fabric) text (place_path x y) tile

-- the instance of a place is its tile
tile_is_there : (fabric : PlainFabric) (text : List PlainModule) → IsFabric fabric → module_at text [] ≡ Some (top_module fabric) →
    (x y : ℕ) (tile : PlainTile) → tile_at fabric x y ≡ Some tile → module_named text (tile_module_name tile) ≡ Some (tile_module (text_mode fabric) tile) →
    module_at text (place_path x y) ≡ Some (tile_module (text_mode fabric) tile)
tile_is_there fabric text is top x y tile there named =
    ap (λ m. module_of text (instance_in m (place_name x y))) top
    ∙ ap (module_of text) (tile_instance_found fabric is x y tile there)
    ∙ named

pub text_has_fabric : (fabric : PlainFabric) (loaders : List PlainModule) → IsFabric fabric → All (λ loader. loader.name ≡ loader_module_name) loaders →
    HasFabric fabric (fabric_text fabric loaders)
text_has_fabric fabric loaders is named = record {
  top_is = top_is_last fabric loaders;
  module_is = λ x y tile there. tile_found fabric loaders is named x y tile there;
  stands = λ x y tile there. record {
    tile_is = tile_is_there fabric (fabric_text fabric loaders) is (top_is_last fabric loaders) x y tile there (tile_found fabric loaders is named x y tile there);
    config_is = config_found fabric loaders is named x y tile there;
    matrix_is = matrix_found fabric loaders is named x y tile there;
    kinds_are = kinds_found fabric loaders is named x y tile there;
  };
}
