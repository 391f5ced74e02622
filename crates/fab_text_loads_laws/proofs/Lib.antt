pub mod Drivers
pub mod Declared
pub mod InMode
pub mod Tops
pub mod Loader
pub mod Offered
pub mod TileItems
pub mod Within
pub mod Bits
pub mod Strobes
pub mod Parts
pub mod Clocks
pub mod Stays
pub mod Named
pub mod Settled
pub mod Ticks
pub mod Runs
pub mod Frames
pub mod ChainItems
pub mod ChainLists
pub mod ChainOrder
pub mod ChainWithin
pub mod ChainValues
pub mod ChainRuns
pub mod Written
pub mod Carried
pub mod Together
pub use Rattle.fab_drives_laws.proofs.Apart as fab_drives_laws_Apart
pub use Rattle.fab_drives_laws.proofs.Declared as fab_drives_laws_Declared
pub use Rattle.fab_drives_laws.proofs.Instances as fab_drives_laws_Instances
pub use Rattle.fab_drives_laws.proofs.Lists as fab_drives_laws_Lists
pub use Rattle.fab_drives_laws.proofs.Modules as fab_drives_laws_Modules
pub use Rattle.fab_drives_laws.proofs.Places as fab_drives_laws_Places
pub use Rattle.fab_drives_laws.proofs.SmallFabric as fab_drives_laws_SmallFabric
pub use Rattle.fab_drives_laws.proofs.Texts as fab_drives_laws_Texts
pub use Rattle.fab_drives_laws.proofs.TileJoins as fab_drives_laws_TileJoins
pub use Rattle.fab_drives_laws.proofs.TilePorts as fab_drives_laws_TilePorts
pub use Rattle.fab_drives_laws.proofs.TopNames as fab_drives_laws_TopNames
pub use Rattle.fab_drives_laws.proofs.fab_tile_drives_laws_BitValues as fab_tile_drives_laws_BitValues
pub use Rattle.fab_drives_laws.proofs.fab_tile_drives_laws_BorderBits as fab_tile_drives_laws_BorderBits
pub use Rattle.fab_drives_laws.proofs.fab_tile_drives_laws_Driven as fab_tile_drives_laws_Driven
pub use Rattle.fab_drives_laws.proofs.fab_tile_drives_laws_Endings as fab_tile_drives_laws_Endings
pub use Rattle.fab_drives_laws.proofs.fab_tile_drives_laws_Latches as fab_tile_drives_laws_Latches
pub use Rattle.fab_drives_laws.proofs.fab_tile_drives_laws_MatrixPorts as fab_tile_drives_laws_MatrixPorts
pub use Rattle.fab_drives_laws.proofs.fab_tile_drives_laws_Members as fab_tile_drives_laws_Members
pub use Rattle.fab_drives_laws.proofs.fab_tile_drives_laws_Modes as fab_tile_drives_laws_Modes
pub use Rattle.fab_drives_laws.proofs.fab_tile_drives_laws_NamedPairs as fab_tile_drives_laws_NamedPairs
pub use Rattle.fab_drives_laws.proofs.fab_tile_drives_laws_PinPorts as fab_tile_drives_laws_PinPorts
pub use Rattle.fab_drives_laws.proofs.fab_tile_drives_laws_TileItems as fab_tile_drives_laws_TileItems
pub use Rattle.fab_drives_laws.proofs.fab_tile_drives_laws_TileNames as fab_tile_drives_laws_TileNames
pub use Rattle.fab_drives_laws.proofs.fab_tile_drives_laws_Widths as fab_tile_drives_laws_Widths
pub use Rattle.fab_drives_laws.proofs.fab_tile_drives_laws_WireNames as fab_tile_drives_laws_WireNames
