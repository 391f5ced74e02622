pub mod Machine
pub mod Loader
pub mod Expressions
pub mod Bounds
pub use Rattle.fab_prim.specs.fab_meaning
pub use Rattle.fab_model
