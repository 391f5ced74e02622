pub mod Asked
pub mod Demand
pub mod Gates
pub mod Search
pub mod Laws
pub mod inner
