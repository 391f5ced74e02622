pub mod Names
pub mod FirstPlaces
pub mod Kinds
pub mod Openings
pub mod Lines
pub mod Spelled
pub mod inner
