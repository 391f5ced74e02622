pub mod Orders
pub mod Loading
pub mod Setting
pub mod Passes
pub mod Blocks
pub mod Cycles
pub use Rattle.fab_simulation_laws.proofs.fab_drives_laws_Apart as fab_drives_laws_Apart
pub use Rattle.fab_simulation_laws.proofs.fab_drives_laws_Places as fab_drives_laws_Places
pub use Rattle.fab_simulation_laws.proofs.Loading as fab_simulation_laws_Loading
