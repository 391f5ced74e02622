pub mod Stimuli
pub mod Spelled
pub mod Traces
