pub mod Files
pub mod Stages
