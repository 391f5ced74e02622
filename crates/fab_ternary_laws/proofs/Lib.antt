pub mod Known
pub mod Picks
pub mod Drivers
pub mod Ranks
