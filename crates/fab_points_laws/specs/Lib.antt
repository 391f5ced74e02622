pub mod Shown
pub mod Known
pub mod Laws
pub mod Example
pub use Rattle.fab_use_defs.specs.fab_drives_laws_Drives as fab_drives_laws_Drives
pub use Rattle.fab_use_defs.specs.fab_drives_laws_Points as fab_drives_laws_Points
pub use Rattle.fab_use_defs.specs.fab_fabric_text_defs_Names as fab_fabric_text_defs_Names
pub use Rattle.fab_use_defs.specs.fab_fabric_text_defs_Text as fab_fabric_text_defs_Text
pub use Rattle.fab_use_defs.specs.fab_fabric_text_defs_Texts as fab_fabric_text_defs_Texts
pub use Rattle.fab_use_defs.specs.fab_fabric_text_defs_Top as fab_fabric_text_defs_Top
pub use Rattle.fab_use_defs.specs.fab_gen_tile_Borders as fab_gen_tile_Borders
pub use Rattle.fab_use_defs.specs.fab_gen_tile_TileModule as fab_gen_tile_TileModule
pub use Rattle.fab_use_defs.specs.fab_legal_Legal as fab_legal_Legal
pub use Rattle.fab_use_defs.specs.fab_legal_Lines as fab_legal_Lines
pub use Rattle.fab_use_defs.specs.fab_legal_Nets as fab_legal_Nets
pub use Rattle.fab_use_defs.specs.fab_legal_Sinks as fab_legal_Sinks
pub use Rattle.fab_use_defs.specs.fab_legal_Steps as fab_legal_Steps
pub use Rattle.fab_use_defs.specs.fab_legal_WellMade as fab_legal_WellMade
pub use Rattle.fab_use_defs.specs.fab_state_Plain as fab_state_Plain
pub use Rattle.fab_use_defs.specs.fab_text_loads_laws_Loads as fab_text_loads_laws_Loads
pub use Rattle.fab_use_defs.specs.fab_tile_drives_laws_Stands as fab_tile_drives_laws_Stands
pub use Rattle.fab_use_defs.specs.Configuring as fab_use_defs_Configuring
pub use Rattle.fab_use_defs.specs.Cycles as fab_use_defs_Cycles
pub use Rattle.fab_use_defs.specs.Design as fab_use_defs_Design
pub use Rattle.fab_use_defs.specs.Headline as fab_use_defs_Headline
pub use Rattle.fab_use_defs.specs.Registers as fab_use_defs_Registers
pub use Rattle.fab_use_defs.specs.Sites as fab_use_defs_Sites
pub use Rattle.fab_use_defs.specs.Sources as fab_use_defs_Sources
pub use Rattle.fab_use_defs.specs.Ways as fab_use_defs_Ways
