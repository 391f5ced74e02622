pub mod Lists
pub mod Names
pub mod Counts
pub mod Fitting
pub mod Expressions
pub mod Clocks
pub mod Flat
pub mod Primitives
pub mod FlatNames
pub mod ConfigItems
pub mod Configurations
pub mod Sized
pub mod Apart
pub mod LoaderNames
pub mod Loaders
pub mod Declared
pub mod Matrices
pub mod TileMatrices
pub use Rattle.fab_tile_drives_laws.proofs.BorderBits as fab_tile_drives_laws_BorderBits
pub use Rattle.fab_tile_drives_laws.proofs.Endings as fab_tile_drives_laws_Endings
pub use Rattle.fab_tile_drives_laws.proofs.Members as fab_tile_drives_laws_Members
pub use Rattle.fab_tile_drives_laws.proofs.NamedPairs as fab_tile_drives_laws_NamedPairs
pub use Rattle.fab_tile_drives_laws.proofs.PinPorts as fab_tile_drives_laws_PinPorts
pub use Rattle.fab_tile_drives_laws.proofs.Widths as fab_tile_drives_laws_Widths
