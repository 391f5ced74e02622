pub mod Readings
pub mod Fine
pub mod Bridge
