pub mod Counted
pub mod Digits
pub mod Ticks
pub mod Values
pub mod Widths
pub mod Loads
pub mod Small
