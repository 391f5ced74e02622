pub mod Lists
pub mod Loading
pub mod Words
pub mod Cycles
pub mod Running
pub mod inner
