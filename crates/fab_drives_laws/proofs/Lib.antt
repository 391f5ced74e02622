pub mod Lists
pub mod Apart
pub mod Modules
pub mod Places
pub mod Instances
pub mod Chains
pub mod Loaders
pub mod Texts
pub mod Declared
pub mod TilePorts
pub mod TopNames
pub mod TileJoins
pub mod Between
pub mod Cascades
pub mod WireDrives
pub mod Fabrics
pub mod SmallFabric
pub use Rattle.fab_fabric_text_defs.proofs.fab_gen_loader_Counted as fab_gen_loader_Counted
pub use Rattle.fab_fabric_text_defs.proofs.fab_gen_loader_Widths as fab_gen_loader_Widths
pub use Rattle.fab_tile_drives_laws.proofs.BitValues as fab_tile_drives_laws_BitValues
pub use Rattle.fab_tile_drives_laws.proofs.BorderBits as fab_tile_drives_laws_BorderBits
pub use Rattle.fab_tile_drives_laws.proofs.Driven as fab_tile_drives_laws_Driven
pub use Rattle.fab_tile_drives_laws.proofs.Endings as fab_tile_drives_laws_Endings
pub use Rattle.fab_tile_drives_laws.proofs.Latches as fab_tile_drives_laws_Latches
pub use Rattle.fab_tile_drives_laws.proofs.MatrixPorts as fab_tile_drives_laws_MatrixPorts
pub use Rattle.fab_tile_drives_laws.proofs.Members as fab_tile_drives_laws_Members
pub use Rattle.fab_tile_drives_laws.proofs.Modes as fab_tile_drives_laws_Modes
pub use Rattle.fab_tile_drives_laws.proofs.NamedPairs as fab_tile_drives_laws_NamedPairs
pub use Rattle.fab_tile_drives_laws.proofs.PinPorts as fab_tile_drives_laws_PinPorts
pub use Rattle.fab_tile_drives_laws.proofs.TileItems as fab_tile_drives_laws_TileItems
pub use Rattle.fab_tile_drives_laws.proofs.TileNames as fab_tile_drives_laws_TileNames
pub use Rattle.fab_tile_drives_laws.proofs.Widths as fab_tile_drives_laws_Widths
pub use Rattle.fab_tile_drives_laws.proofs.WireNames as fab_tile_drives_laws_WireNames
