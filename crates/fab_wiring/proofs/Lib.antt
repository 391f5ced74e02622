pub mod Numbered
pub mod Solved
pub mod Left
pub mod Clocking
pub mod Sources
pub mod Known
pub mod Driving
