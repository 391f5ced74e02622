pub mod Rounds
pub mod Solutions
pub mod Runs
pub mod States
pub mod Moves
pub mod Counts
pub mod Groups
pub mod Order
pub mod Least
mod Examples
