pub mod Ports
pub mod Modules
pub mod Works
pub use Rattle.fab_meaning
