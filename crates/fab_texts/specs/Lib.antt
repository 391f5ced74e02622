pub mod Rows
pub mod Printed
pub mod Places
pub mod Formats
pub mod Sections
