pub mod Steps
pub mod Found
pub mod Grid
pub mod Chain
pub mod Modes
