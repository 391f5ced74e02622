pub mod Said
pub mod Features
pub mod Design
pub mod Wrong
pub mod Naming
pub mod Spelled
pub mod NameParts
pub mod inner
pub use Rattle.fab_use_defs.specs.fab_fabric_text_defs_Places as fab_fabric_text_defs_Places
pub use Rattle.fab_use_defs.specs.fab_gen_tile_Words as fab_gen_tile_Words
pub use Rattle.fab_use_defs.specs.Registers as fab_use_defs_Registers
