pub mod Stands
pub mod Tiles
pub use Rattle.fab_gen_tile.specs.Borders as fab_gen_tile_Borders
pub use Rattle.fab_gen_tile.specs.ConfigModule as fab_gen_tile_ConfigModule
pub use Rattle.fab_gen_tile.specs.MatrixModule as fab_gen_tile_MatrixModule
pub use Rattle.fab_gen_tile.specs.Names as fab_gen_tile_Names
pub use Rattle.fab_gen_tile.specs.TileModule as fab_gen_tile_TileModule
pub use Rattle.fab_gen_tile.specs.Words as fab_gen_tile_Words
pub use Rattle.fab_gen_tile.specs.fab_matrix.specs.Matrix as fab_matrix_Matrix
pub use Rattle.fab_gen_tile.specs.fab_meaning.specs.Loading as fab_meaning_Loading
pub use Rattle.fab_gen_tile.specs.fab_meaning.specs.Ports as fab_meaning_Ports
pub use Rattle.fab_gen_tile.specs.fab_meaning.specs.Runs as fab_meaning_Runs
pub use Rattle.fab_gen_tile.specs.fab_model.specs.declared.mode.Mode as fab_model_mode_Mode
pub use Rattle.fab_gen_tile.specs.fab_model.specs.declared.mode.Mode.TheVariants as fab_model_mode_Mode_TheVariants
pub use Rattle.fab_gen_tile.specs.fab_model.specs.Tables as fab_model_Tables
pub use Rattle.fab_gen_tile.specs.fab_model.specs.Tiles as fab_model_Tiles
pub use Rattle.fab_gen_tile.specs.fab_prim.specs.Modules as fab_prim_Modules
