pub mod Columns
pub mod Use
pub mod inner
