pub mod RowByRow
pub mod Opened
pub mod Whole
pub mod Wires
pub mod Paired
pub mod Crowds
pub mod Said
pub mod Matrices
pub mod Places
pub mod TilesOnce
pub mod RowsOnce
pub mod FabricsOnce
pub mod Grids
pub use Rattle.fab_blocks.proofs.Readings as fab_blocks_Readings
