pub mod Walks
pub mod Text
pub mod inner
