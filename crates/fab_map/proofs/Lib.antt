pub mod There
pub mod Reached
