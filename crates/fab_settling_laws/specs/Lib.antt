pub mod Steps
pub mod Blocks
pub mod Settling
pub mod Going
pub mod Together
pub mod Released
pub use Rattle.fab_runs_laws.specs.fab_drives_laws_Drives as fab_drives_laws_Drives
pub use Rattle.fab_runs_laws.specs.fab_fabric_text_defs_Text as fab_fabric_text_defs_Text
pub use Rattle.fab_runs_laws.specs.fab_fabric_text_defs_Texts as fab_fabric_text_defs_Texts
pub use Rattle.fab_runs_laws.specs.fab_fabric_text_defs_Top as fab_fabric_text_defs_Top
pub use Rattle.fab_runs_laws.specs.fab_text_loads_laws_Loads as fab_text_loads_laws_Loads
pub use Rattle.fab_runs_laws.specs.fab_use_defs_Configuring as fab_use_defs_Configuring
pub use Rattle.fab_runs_laws.specs.fab_use_defs_Cycles as fab_use_defs_Cycles
pub use Rattle.fab_runs_laws.specs.fab_use_defs_Design as fab_use_defs_Design
pub use Rattle.fab_runs_laws.specs.fab_use_defs_Headline as fab_use_defs_Headline
pub use Rattle.fab_runs_laws.specs.fab_use_defs_Registers as fab_use_defs_Registers
