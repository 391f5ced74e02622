pub mod Endings
pub mod Members
pub mod Modes
pub mod Widths
pub mod TileNames
pub mod TileItems
pub mod Driven
pub mod WireNames
pub mod BorderBits
pub mod RowValues
pub mod Latches
pub mod BitValues
pub mod PinPorts
pub mod PinValues
pub mod NamedPairs
pub mod MatrixPorts
pub mod OutputValues
pub mod Together
pub use Rattle.fab_gen_tile.specs.fab_matrix.proofs.Fields as fab_matrix_Fields
pub use Rattle.fab_gen_tile.specs.fab_meaning.proofs.Declared as fab_meaning_Declared
pub use Rattle.fab_gen_tile.specs.fab_meaning.proofs.Dependence as fab_meaning_Dependence
pub use Rattle.fab_gen_tile.specs.fab_meaning.proofs.Modules as fab_meaning_Modules
pub use Rattle.fab_gen_tile.specs.fab_model.proofs.Inserts as fab_model_Inserts
