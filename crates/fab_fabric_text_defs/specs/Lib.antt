pub mod Names
pub mod Mode
pub mod Chain
pub mod Top
pub mod Text
pub mod Texts
pub use Rattle.fab_fabric.specs.Examples as fab_fabric_Examples
pub use Rattle.fab_fabric.specs.Fabric as fab_fabric_Fabric
pub use Rattle.fab_fabric.specs.Names as fab_fabric_Names
pub use Rattle.fab_fabric.specs.Places as Places
pub use Rattle.fab_fabric.specs.Sites as fab_fabric_Sites
pub use Rattle.fab_fabric.specs.Sums as fab_fabric_Sums
pub use Rattle.fab_fabric.specs.Wires as fab_fabric_Wires
pub use Rattle.fab_fabric.specs.declared.wire.Site as fab_fabric_wire_Site
pub use Rattle.fab_fabric.specs.declared.wire.Wire as fab_fabric_wire_Wire
pub use Rattle.fab_gen_loader.specs.Expressions as fab_gen_loader_Expressions
pub use Rattle.fab_gen_loader.specs.Loader as fab_gen_loader_Loader
pub use Rattle.fab_gen_loader.specs.Machine as fab_gen_loader_Machine
pub use Rattle.fab_gen_tile.specs.Borders as fab_gen_tile_Borders
pub use Rattle.fab_gen_tile.specs.ConfigModule as fab_gen_tile_ConfigModule
pub use Rattle.fab_gen_tile.specs.MatrixModule as fab_gen_tile_MatrixModule
pub use Rattle.fab_gen_tile.specs.Names as fab_gen_tile_Names
pub use Rattle.fab_gen_tile.specs.TileModule as fab_gen_tile_TileModule
pub use Rattle.fab_gen_tile.specs.Words as fab_gen_tile_Words
pub use Rattle.fab_gen_tile.specs.fab_meaning.specs.Loading as fab_meaning_Loading
pub use Rattle.fab_gen_tile.specs.fab_meaning.specs.Points as fab_meaning_Points
pub use Rattle.fab_gen_tile.specs.fab_meaning.specs.Ports as fab_meaning_Ports
pub use Rattle.fab_gen_tile.specs.fab_meaning.specs.Runs as fab_meaning_Runs
pub use Rattle.fab_gen_tile.specs.fab_meaning.specs.Settled as fab_meaning_Settled
pub use Rattle.fab_gen_tile.specs.fab_meaning.specs.Value as fab_meaning_Value
pub use Rattle.fab_gen_tile.specs.fab_model.specs.Cascade as fab_model_Cascade
pub use Rattle.fab_gen_tile.specs.fab_model.specs.Drive as fab_model_Drive
pub use Rattle.fab_gen_tile.specs.fab_model.specs.Grid as fab_model_Grid
pub use Rattle.fab_gen_tile.specs.fab_model.specs.Joins as fab_model_Joins
pub use Rattle.fab_gen_tile.specs.fab_model.specs.Rows as fab_model_Rows
pub use Rattle.fab_gen_tile.specs.fab_model.specs.Tables as fab_model_Tables
pub use Rattle.fab_gen_tile.specs.fab_model.specs.Tiles as fab_model_Tiles
pub use Rattle.fab_gen_tile.specs.fab_model.specs.Wires as fab_model_Wires
pub use Rattle.fab_gen_tile.specs.fab_model.specs.declared.mode.Mode as fab_model_mode_Mode
pub use Rattle.fab_gen_tile.specs.fab_model.specs.declared.mode.Mode.TheVariants as fab_model_mode_Mode_TheVariants
pub use Rattle.fab_gen_tile.specs.fab_model.specs.declared.tiles.Bel as fab_model_tiles_Bel
pub use Rattle.fab_gen_tile.specs.fab_model.specs.declared.tiles.WireRow as fab_model_tiles_WireRow
pub use Rattle.fab_gen_tile.specs.fab_prim.specs.Modules as fab_prim_Modules
pub use Rattle.fab_gen_tile.specs.fab_prim.specs.Ports as fab_prim_Ports
