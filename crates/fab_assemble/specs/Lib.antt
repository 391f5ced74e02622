pub mod Releasing
pub mod inner
pub use Rattle.fab_settling_laws.specs.fab_drives_laws_Drives as fab_drives_laws_Drives
pub use Rattle.fab_settling_laws.specs.fab_fabric_text_defs_Text as fab_fabric_text_defs_Text
pub use Rattle.fab_settling_laws.specs.fab_fabric_text_defs_Texts as fab_fabric_text_defs_Texts
pub use Rattle.fab_settling_laws.specs.fab_fabric_text_defs_Top as fab_fabric_text_defs_Top
pub use Rattle.fab_features.specs.Design as fab_features_Design
pub use Rattle.fab_features.specs.Features as fab_features_Features
pub use Rattle.fab_features.specs.Naming as fab_features_Naming
pub use Rattle.fab_features.specs.Said as fab_features_Said
pub use Rattle.fab_features.specs.Spelled as fab_features_Spelled
pub use Rattle.fab_features.specs.Wrong as fab_features_Wrong
pub use Rattle.fab_features.specs.declared.said.Choice as fab_features_said_Choice
pub use Rattle.fab_settling_laws.specs.Blocks as fab_settling_laws_Blocks
pub use Rattle.fab_settling_laws.specs.Released as fab_settling_laws_Released
pub use Rattle.fab_settling_laws.specs.Settling as fab_settling_laws_Settling
pub use Rattle.fab_settling_laws.specs.fab_text_loads_laws_Loads as fab_text_loads_laws_Loads
pub use Rattle.fab_settling_laws.specs.fab_use_defs_Configuring as fab_use_defs_Configuring
pub use Rattle.fab_settling_laws.specs.fab_use_defs_Cycles as fab_use_defs_Cycles
pub use Rattle.fab_settling_laws.specs.fab_use_defs_Design as fab_use_defs_Design
pub use Rattle.fab_settling_laws.specs.fab_use_defs_Headline as fab_use_defs_Headline
pub use Rattle.fab_settling_laws.specs.fab_use_defs_Registers as fab_use_defs_Registers
