pub mod Visits
pub mod Scenes
pub mod Spreading
