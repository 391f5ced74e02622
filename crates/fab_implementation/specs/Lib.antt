pub mod Plain
pub mod OnFabric
pub mod Inputs
pub use Rattle.fab_fabric.specs.fab_model
pub use Rattle.fab_fabric
pub use Rattle.fab_netlist
