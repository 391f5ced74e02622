pub mod Groups
pub mod Chains
pub mod Fields
pub mod Selecting
pub mod Places
pub mod Renamed
pub mod Lists
