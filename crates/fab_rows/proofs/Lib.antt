pub mod Fields
pub mod Kept
pub mod Turns
pub mod PlainLines
pub mod LastGaps
