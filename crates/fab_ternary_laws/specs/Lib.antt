pub mod Operators
pub mod Values
pub mod Shown
pub mod Laws
pub mod Ranks
pub use Rattle.fab_matrix
