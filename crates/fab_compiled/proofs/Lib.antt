pub mod Lengths
pub mod Bits
pub mod Entries
pub mod Numbered
pub mod TreesGrow
pub mod Leading
pub mod Telling
pub mod Picking
pub mod Compiling
pub mod Joining
pub mod Placed
pub mod Evaluated
pub mod Written
pub mod Rows
pub mod Looked
pub mod Adding
pub mod Sizes
pub use Rattle.fab_equations.proofs.Numbering as fab_equations_Numbering
pub use Rattle.fab_solutions_laws.proofs.Demanded as fab_solutions_laws_Demanded
pub use Rattle.fab_solutions_laws.proofs.Orders as fab_solutions_laws_Orders
