pub mod Entries
pub mod Named
pub mod Evaluated
pub mod Widths
pub mod Agreement
