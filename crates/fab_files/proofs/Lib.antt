pub mod Causes
pub mod Text
pub mod Complete
pub mod Stages
