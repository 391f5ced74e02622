pub mod Parts
pub mod Grown
pub mod Counting
pub mod Sinks
pub mod Passes
pub mod Running
