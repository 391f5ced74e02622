pub mod States
pub mod Drawn
pub mod Starts
pub mod Cycles
pub mod Traces
