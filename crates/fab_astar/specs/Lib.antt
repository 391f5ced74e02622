pub mod Walks
pub mod Queue
pub mod Scene
pub mod State
pub mod Tables
