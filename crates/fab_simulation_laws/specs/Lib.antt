pub mod Simulation
pub mod Laws
pub use Rattle.fab_use_defs.specs.fab_fabric_text_defs_Names as fab_fabric_text_defs_Names
pub use Rattle.fab_use_defs.specs.fab_state_Plain as fab_state_Plain
pub use Rattle.fab_use_defs.specs.Sites as fab_use_defs_Sites
