pub mod Pins
pub mod Lut
pub mod Pad
pub mod Mux
pub mod Kinds
pub use Rattle.fab_bits
