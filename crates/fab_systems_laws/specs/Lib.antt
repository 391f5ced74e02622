pub mod System
pub mod Steps
pub mod Ternary
pub mod Groups
