pub mod Exist
pub mod Agree
pub mod Loading
pub use Rattle.fab_use_defs.proofs.fab_drives_laws_Apart as fab_drives_laws_Apart
pub use Rattle.fab_use_defs.proofs.fab_drives_laws_Places as fab_drives_laws_Places
