pub mod Plain
pub mod Spelling
pub mod Declarations
pub mod Sound
