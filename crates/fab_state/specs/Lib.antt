pub mod Plain
pub mod Kinds
pub mod Lines
pub mod Spelled
pub mod Constraints
pub use Rattle.fab_netlist
pub use Rattle.fab_implementation
