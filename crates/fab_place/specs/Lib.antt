pub mod Pins
pub mod Standing
pub mod Fixings
pub mod inner
