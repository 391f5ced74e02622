pub mod Names
pub mod Rows
pub mod Once
pub mod Named
pub mod Supported
