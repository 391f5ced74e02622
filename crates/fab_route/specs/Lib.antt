pub mod Plain
pub mod Over
pub mod Answers
pub mod inner
