pub mod Sites
pub mod Registers
pub mod Runs
pub mod Released
pub use Rattle.fab_features.proofs.Chosen as fab_features_Chosen
pub use Rattle.fab_features.proofs.Saids as fab_features_Saids
