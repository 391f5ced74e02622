pub mod Sources
pub mod Kept
pub mod Shares
pub mod Parted
pub mod Entries
pub mod Forming
pub use Rattle.fab_compiled.proofs.fab_solutions_laws_Demanded as fab_solutions_laws_Demanded
pub use Rattle.fab_compiled.proofs.fab_solutions_laws_Orders as fab_solutions_laws_Orders
