pub mod Flags
pub mod Fanout
pub mod Changes
pub mod inner
