pub mod Drivers
pub mod Sites
pub mod Fed
pub mod Known
pub mod Registers
pub mod SimulatedCycles
pub mod SimulatedStart
pub mod SimulatedHeadline
pub mod Once
pub mod Latches
pub mod Left
pub mod OrderedStart
pub mod OrderedCycles
pub mod OrderedHeadline
pub use Rattle.fab_runs_laws.proofs.fab_drives_laws_Apart as fab_drives_laws_Apart
pub use Rattle.fab_runs_laws.proofs.fab_drives_laws_Texts as fab_drives_laws_Texts
pub use Rattle.fab_runs_laws.proofs.fab_points_laws_EachSource as fab_points_laws_EachSource
pub use Rattle.fab_runs_laws.proofs.fab_points_laws_Places as fab_points_laws_Places
pub use Rattle.fab_runs_laws.proofs.fab_points_laws_Sourced as fab_points_laws_Sourced
pub use Rattle.fab_runs_laws.proofs.Carried as fab_runs_laws_Carried
pub use Rattle.fab_runs_laws.proofs.DesignRank as fab_runs_laws_DesignRank
pub use Rattle.fab_runs_laws.proofs.Instants as fab_runs_laws_Instants
pub use Rattle.fab_runs_laws.proofs.Setting as fab_runs_laws_Setting
pub use Rattle.fab_runs_laws.proofs.Values as fab_runs_laws_Values
