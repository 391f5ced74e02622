pub mod Draws
pub mod Shuffled
