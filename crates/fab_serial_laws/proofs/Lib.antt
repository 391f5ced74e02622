pub mod Closure
pub mod Inside
pub mod Fabric
pub mod InnerRuns
pub mod Loading
pub mod Takes
pub mod Pads
pub use Rattle.fab_serial.proofs.Places as fab_serial_Places
pub use Rattle.fab_serial.proofs.Led as fab_serial_Led
pub use Rattle.fab_serial.proofs.Moments as fab_serial_Moments
pub use Rattle.fab_nested_laws.proofs.Sets as fab_nested_laws_Sets
pub use Rattle.fab_serial.proofs.Registers as fab_serial_Registers
pub use Rattle.fab_serial.proofs.Steps as fab_serial_Steps
pub use Rattle.fab_serial.proofs.fab_parts_sound_laws_Names as fab_parts_sound_laws_Names
