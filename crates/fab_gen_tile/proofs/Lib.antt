pub mod Counted
pub mod Steps
pub mod Sides
pub mod Placing
pub mod Renumbered
