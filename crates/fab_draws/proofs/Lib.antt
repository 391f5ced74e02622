pub mod Drawing
pub mod Shuffling
