pub mod Latches
pub mod Streams
pub mod Chain
pub use Rattle.fab_frames.specs.Positions as fab_frames_Positions
pub use Rattle.fab_frames.specs.Stream as fab_frames_Stream
