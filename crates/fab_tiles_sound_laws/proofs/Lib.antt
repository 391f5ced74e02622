pub mod Digits
pub mod Ranks
pub mod PlainNames
pub mod Borders
pub mod Places
pub mod Apart
pub mod Shapes
pub mod Items
pub mod Standing
pub mod Joins
pub mod PortNames
pub mod Instances
pub mod Drives
pub mod Drivers
pub mod OneDriver
pub mod ClockUse
pub mod Fitting
pub use Rattle.fab_parts_sound_laws.proofs.Configurations as fab_parts_sound_laws_Configurations
pub use Rattle.fab_parts_sound_laws.proofs.Counts as fab_parts_sound_laws_Counts
pub use Rattle.fab_parts_sound_laws.proofs.Declared as fab_parts_sound_laws_Declared
pub use Rattle.fab_parts_sound_laws.proofs.Expressions as fab_parts_sound_laws_Expressions
pub use Rattle.fab_parts_sound_laws.proofs.Fitting as fab_parts_sound_laws_Fitting
pub use Rattle.fab_parts_sound_laws.proofs.Flat as fab_parts_sound_laws_Flat
pub use Rattle.fab_parts_sound_laws.proofs.Lists as fab_parts_sound_laws_Lists
pub use Rattle.fab_parts_sound_laws.proofs.Loaders as fab_parts_sound_laws_Loaders
pub use Rattle.fab_parts_sound_laws.proofs.Names as fab_parts_sound_laws_Names
pub use Rattle.fab_parts_sound_laws.proofs.Primitives as fab_parts_sound_laws_Primitives
pub use Rattle.fab_parts_sound_laws.proofs.Sized as fab_parts_sound_laws_Sized
pub use Rattle.fab_parts_sound_laws.proofs.TileMatrices as fab_parts_sound_laws_TileMatrices
