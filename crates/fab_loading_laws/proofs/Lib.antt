pub mod Ticks
pub mod Runs
pub mod Header
pub mod Addresses
pub mod Frames
pub mod Columns
pub mod Loads
pub mod Turns
pub mod Chain
pub use Rattle.fab_frames.proofs.Numbers as fab_frames_Numbers
pub use Rattle.fab_frames.proofs.Placed as fab_frames_Placed
