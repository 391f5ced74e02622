pub mod Constants
pub mod Cut
pub mod Cutting
pub mod Words
