-- The law of drives, put together.
use Rattle.std.proofs.Common.{◌≡◌, ℕ, List, All, Some}
use Rattle.std.proofs.lemmas.List.Elements.{All-weaker, All-contains}
use Rattle.fab_syntax.specs.Plain.{PlainModule}
use Rattle.fab_fabric_text_defs.specs.fab_model_Tiles.{PlainTile, IsTile}
use Rattle.fab_fabric_text_defs.specs.fab_model_Grid.{PlainFabric, tile_at, AllRows, AreRows}
use Rattle.fab_fabric_text_defs.specs.fab_fabric_Fabric.{IsFabric, AreTiles}
use Rattle.fab_fabric_text_defs.specs.fab_gen_loader_Loader.{loader_module_name}
use Rattle.fab_fabric_text_defs.specs.Mode.{text_mode}
use Rattle.fab_fabric_text_defs.specs.Text.{fabric_text}
use Rattle.fab_tile_drives_laws.specs.Tiles.{TileWorks}
use Rattle.fab_tile_drives_laws.proofs.Together.{tile_works}
use Rattle.fab_drives_laws.specs.Points.{place_path}
use Rattle.fab_drives_laws.specs.Drives.{ShowsDrives}
use Rattle.fab_drives_laws.proofs.Modules.{tile_of_types}
use Rattle.fab_drives_laws.proofs.Texts.{HasFabric, text_has_fabric}
use Rattle.fab_drives_laws.proofs.WireDrives.{shows_drives}

are_rows : (fabric : PlainFabric) → AreTiles fabric → AreRows fabric
are_rows fabric are = All-weaker IsTile AllRows (λ tile is. is.rows) fabric.types are

-- each tile of a fabric works in a text that has it
each_works : (fabric : PlainFabric) (text : List PlainModule) → AreTiles fabric → HasFabric fabric text →
    (x y : ℕ) (tile : PlainTile) → tile_at fabric x y ≡ Some tile → TileWorks text (place_path x y) tile
each_works fabric text are has x y tile there =
    let listed = tile_of_types fabric x y tile there in
    tile_works (text_mode fabric) text (place_path x y) tile (All-contains IsTile fabric.types tile are listed) (has.stands x y tile there)

pub fabric_shows_drives : (fabric : PlainFabric) (loaders : List PlainModule) → IsFabric fabric → AreTiles fabric → All (λ loader. loader.name ≡ loader_module_name) loaders →
    ShowsDrives fabric (fabric_text fabric loaders)
fabric_shows_drives fabric loaders is are named =
    let text = fabric_text fabric loaders in
    let has = text_has_fabric fabric loaders is named in
    shows_drives fabric text has (are_rows fabric are) (each_works fabric text are has)
