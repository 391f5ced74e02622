pub mod Keeping
pub mod Blocks
pub mod Prefixes
pub mod Readings
pub mod Sizes
pub mod Tiles
pub mod Rows
pub mod Words
pub mod Whole
pub use Rattle.fab_read.proofs.Grids as fab_read_Grids
pub use Rattle.fab_read.proofs.Places as fab_read_Places
