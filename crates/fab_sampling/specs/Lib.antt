pub mod Sampling
pub mod Summary
pub mod inner
pub use Rattle.fab_sample_runs_laws.specs.fab_flow_Assembling as fab_flow_Assembling
pub use Rattle.fab_sample_runs_laws.specs.fab_flow_BitFeatures as fab_flow_BitFeatures
pub use Rattle.fab_sample_runs_laws.specs.fab_flow_Bits as fab_flow_Bits
pub use Rattle.fab_sample_runs_laws.specs.fab_flow_Flowing as fab_flow_Flowing
pub use Rattle.fab_sample_runs_laws.specs.fab_flow_Generating as fab_flow_Generating
pub use Rattle.fab_sample_runs_laws.specs.fab_flow_Mapping as fab_flow_Mapping
pub use Rattle.fab_sample_runs_laws.specs.fab_flow_Matrix as fab_flow_Matrix
pub use Rattle.fab_sample_runs_laws.specs.fab_flow_Partial as fab_flow_Partial
pub use Rattle.fab_sample_runs_laws.specs.fab_flow_Serial as fab_flow_Serial
pub use Rattle.fab_sample_runs_laws.specs.fab_flow_Timing as fab_flow_Timing
pub use Rattle.fab_sample_runs_laws.specs.fab_simulate_command_Simulating as fab_simulate_command_Simulating
