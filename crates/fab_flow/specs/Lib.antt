pub mod Texts
pub mod Generating
pub mod Matrix
pub mod Resetting
pub mod Assembling
pub mod Bits
pub mod Mapping
pub mod Flowing
pub mod BitFeatures
pub mod Partial
pub mod Timing
pub mod Serial
pub use Rattle.fab_designs.specs.Designs as fab_designs_Designs
pub use Rattle.fab_designs.specs.fab_wide_Split as fab_wide_Split
pub use Rattle.fab_assemble.specs.fab_features_Design as fab_features_Design
pub use Rattle.fab_assemble.specs.fab_use_defs_Design as fab_use_defs_Design
pub use Rattle.fab_assemble.specs.fab_use_defs_Registers as fab_use_defs_Registers
