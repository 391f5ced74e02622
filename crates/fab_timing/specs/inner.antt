pub mod Arrivals
pub mod Tables
pub mod Adding
pub mod Passes
pub mod Design
pub mod Search
pub mod Trails
