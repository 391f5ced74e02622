pub mod Ordered
pub mod Laws
pub use Rattle.fab_simulation_laws.specs.Laws as fab_simulation_laws_Laws
pub use Rattle.fab_simulation_laws.specs.Simulation as fab_simulation_laws_Simulation
pub use Rattle.fab_simulation_laws.specs.fab_use_defs_Sites as fab_use_defs_Sites
