pub mod Sites
pub mod Configuration
pub mod Design
pub mod Configuring
pub mod Cycles
pub mod Registers
pub mod Headline
pub mod Ways
pub mod Sources
pub use Rattle.fab_text_loads_laws.specs.fab_drives_laws_Drives as fab_drives_laws_Drives
pub use Rattle.fab_text_loads_laws.specs.fab_drives_laws_Examples as fab_drives_laws_Examples
pub use Rattle.fab_text_loads_laws.specs.fab_drives_laws_Points as fab_drives_laws_Points
pub use Rattle.fab_text_loads_laws.specs.fab_fabric_text_defs_Mode as fab_fabric_text_defs_Mode
pub use Rattle.fab_text_loads_laws.specs.fab_fabric_text_defs_Names as fab_fabric_text_defs_Names
pub use Rattle.fab_text_loads_laws.specs.fab_fabric_text_defs_Places as fab_fabric_text_defs_Places
pub use Rattle.fab_text_loads_laws.specs.fab_fabric_text_defs_Text as fab_fabric_text_defs_Text
pub use Rattle.fab_text_loads_laws.specs.fab_fabric_text_defs_Texts as fab_fabric_text_defs_Texts
pub use Rattle.fab_text_loads_laws.specs.fab_fabric_text_defs_Top as fab_fabric_text_defs_Top
pub use Rattle.fab_text_loads_laws.specs.fab_gen_loader_Loader as fab_gen_loader_Loader
pub use Rattle.fab_text_loads_laws.specs.fab_gen_tile_Borders as fab_gen_tile_Borders
pub use Rattle.fab_text_loads_laws.specs.fab_gen_tile_ConfigModule as fab_gen_tile_ConfigModule
pub use Rattle.fab_text_loads_laws.specs.fab_gen_tile_MatrixModule as fab_gen_tile_MatrixModule
pub use Rattle.fab_text_loads_laws.specs.fab_gen_tile_Names as fab_gen_tile_Names
pub use Rattle.fab_text_loads_laws.specs.fab_gen_tile_TileModule as fab_gen_tile_TileModule
pub use Rattle.fab_text_loads_laws.specs.fab_gen_tile_Words as fab_gen_tile_Words
pub use Rattle.fab_state.specs.fab_implementation.specs.OnFabric as fab_implementation_OnFabric
pub use Rattle.fab_state.specs.fab_implementation.specs.Plain as fab_implementation_Plain
pub use Rattle.fab_legal.specs.Legal as fab_legal_Legal
pub use Rattle.fab_legal.specs.Lines as fab_legal_Lines
pub use Rattle.fab_legal.specs.Nets as fab_legal_Nets
pub use Rattle.fab_legal.specs.Sinks as fab_legal_Sinks
pub use Rattle.fab_legal.specs.Steps as fab_legal_Steps
pub use Rattle.fab_legal.specs.Turns as fab_legal_Turns
pub use Rattle.fab_legal.specs.WellMade as fab_legal_WellMade
pub use Rattle.fab_state.specs.Plain as fab_state_Plain
pub use Rattle.fab_text_loads_laws.specs.Loads as fab_text_loads_laws_Loads
pub use Rattle.fab_text_loads_laws.specs.Points as fab_text_loads_laws_Points
pub use Rattle.fab_text_loads_laws.specs.fab_tile_drives_laws_Stands as fab_tile_drives_laws_Stands
pub use Rattle.fab_text_loads_laws.specs.fab_tile_drives_laws_Tiles as fab_tile_drives_laws_Tiles
