pub mod Wiring
pub mod Given
pub mod Laws
pub mod Clocks
pub mod inner
