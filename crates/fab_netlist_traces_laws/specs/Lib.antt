pub mod SimulatedDesigns
pub mod SimulatedLaws
pub mod OrderedDesigns
pub mod OrderedLaws
pub use Rattle.fab_runs_laws.specs.fab_points_laws_Known as fab_points_laws_Known
pub use Rattle.fab_runs_laws.specs.Carrying as fab_runs_laws_Carrying
pub use Rattle.fab_simulation_laws.specs.Simulation as fab_simulation_laws_Simulation
pub use Rattle.fab_runs_laws.specs.fab_use_defs_Configuring as fab_use_defs_Configuring
pub use Rattle.fab_runs_laws.specs.fab_use_defs_Cycles as fab_use_defs_Cycles
pub use Rattle.fab_runs_laws.specs.fab_use_defs_Design as fab_use_defs_Design
pub use Rattle.fab_runs_laws.specs.fab_use_defs_Headline as fab_use_defs_Headline
pub use Rattle.fab_runs_laws.specs.fab_use_defs_Registers as fab_use_defs_Registers
pub use Rattle.fab_runs_laws.specs.fab_use_defs_Sites as fab_use_defs_Sites
pub use Rattle.fab_runs_laws.specs.fab_use_defs_Sources as fab_use_defs_Sources
