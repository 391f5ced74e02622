pub mod Flat
pub mod Design
pub mod Judged
pub mod Clocks
pub mod Refusals
pub mod Blif
pub mod inner
