pub mod Implementations
pub mod Netlists
pub mod Formats
