pub mod Plain
pub mod Words
pub mod Covers
pub mod Context
pub mod Judge
pub mod Spelled
pub mod Rules
pub mod inner
