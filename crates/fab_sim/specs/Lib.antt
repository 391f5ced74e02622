pub mod Once
pub mod Making
pub mod Machine
pub mod Stepper
pub mod inner
pub use Rattle.fab_ordering_laws.specs.Ordered as fab_ordering_laws_Ordered
pub use Rattle.fab_ordering_laws.specs.fab_simulation_laws_Laws as fab_simulation_laws_Laws
pub use Rattle.fab_ordering_laws.specs.fab_simulation_laws_Simulation as fab_simulation_laws_Simulation
pub use Rattle.fab_state_points.specs.Entries as fab_state_points_Entries
pub use Rattle.fab_state_points.specs.Standing as fab_state_points_Standing
pub use Rattle.fab_state_points.specs.declared.entry.Entry as fab_state_points_entry_Entry
