pub mod Module
pub mod Sending
pub mod Delivery
pub use Rattle.fab_loading_laws.specs.Latches as fab_loading_laws_Latches
pub use Rattle.fab_loading_laws.specs.Streams as fab_loading_laws_Streams
