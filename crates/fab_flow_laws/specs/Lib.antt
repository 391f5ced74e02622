pub mod StoredLaws
pub mod ReadyLaws
pub mod SimulatedLaws
pub mod BitsLaws
pub mod FeaturesLaws
pub use Rattle.fab_flow.specs.Assembling as fab_flow_Assembling
pub use Rattle.fab_flow.specs.BitFeatures as fab_flow_BitFeatures
pub use Rattle.fab_flow.specs.Bits as fab_flow_Bits
pub use Rattle.fab_flow.specs.Flowing as fab_flow_Flowing
pub use Rattle.fab_flow.specs.Generating as fab_flow_Generating
pub use Rattle.fab_flow.specs.Mapping as fab_flow_Mapping
pub use Rattle.fab_flow.specs.Matrix as fab_flow_Matrix
pub use Rattle.fab_flow.specs.Partial as fab_flow_Partial
pub use Rattle.fab_flow.specs.Serial as fab_flow_Serial
pub use Rattle.fab_flow.specs.Timing as fab_flow_Timing
pub use Rattle.fab_flow.specs.fab_use_defs_Design as fab_use_defs_Design
pub use Rattle.fab_legal_states_laws.specs.ShortLaws as fab_legal_states_laws_ShortLaws
pub use Rattle.fab_simulate_command.specs.Simulating as fab_simulate_command_Simulating
pub use Rattle.fab_spelled_designs_laws.specs.DesignLaws as fab_spelled_designs_laws_DesignLaws
pub use Rattle.fab_features.specs.fab_fabric_text_defs_Places as fab_fabric_text_defs_Places
pub use Rattle.fab_features.specs.Design as fab_features_Design
pub use Rattle.fab_features.specs.Features as fab_features_Features
pub use Rattle.fab_features.specs.Naming as fab_features_Naming
pub use Rattle.fab_features.specs.Spelled as fab_features_Spelled
pub use Rattle.fab_features.specs.Wrong as fab_features_Wrong
pub use Rattle.fab_features.specs.fab_gen_tile_Words as fab_gen_tile_Words
pub use Rattle.fab_features.specs.fab_use_defs_Registers as fab_use_defs_Registers
