pub mod Slices
pub mod Fits
pub mod Firsts
pub mod Finding
pub mod Edges
pub mod UseOnce
