pub mod Declarations
pub mod Places
pub mod Evaluation
pub mod Agreement
pub use Rattle.fab_meaning
