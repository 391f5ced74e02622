pub mod Storing
pub mod Ending
pub mod Bitstreams
