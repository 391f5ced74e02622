pub mod Literals
pub mod Scanning
pub mod Spelled
pub mod Told
pub mod Tokens
pub use Rattle.fab_syntax
