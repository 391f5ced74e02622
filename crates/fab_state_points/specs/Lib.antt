pub mod Finding
pub mod Entries
pub mod Standing
