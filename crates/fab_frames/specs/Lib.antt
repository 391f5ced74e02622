pub mod Positions
pub mod Stream
pub mod Refusals
pub mod Bytes
pub mod inner
pub use Rattle.fab_fabric
