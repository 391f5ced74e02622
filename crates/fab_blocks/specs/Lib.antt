pub mod Cells
pub mod Words
pub mod Blocks
pub mod Rows
pub mod Reading
pub mod Inner
pub mod Saying
