pub mod Steps
pub mod DesignDraws
pub mod Pushed
