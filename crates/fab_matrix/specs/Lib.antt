pub mod Names
pub mod Matrix
pub mod Selects
pub mod inner
pub use Rattle.fab_syntax
pub use Rattle.fab_meaning
