pub mod Lists
pub mod Sides
pub mod Keys
pub mod inner
