pub mod Names
pub mod Parts
pub mod Order
pub mod Joined
pub mod Numbers
pub mod Counts
pub mod Items
