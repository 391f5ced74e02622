pub mod Broken
pub mod Once
