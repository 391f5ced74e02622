pub use Rattle.fab_fabric.proofs.Samples as fab_fabric_Samples
pub use Rattle.fab_gen_loader.proofs.Counted as fab_gen_loader_Counted
pub use Rattle.fab_gen_loader.proofs.Widths as fab_gen_loader_Widths
pub use Rattle.fab_gen_tile.specs.fab_model.proofs.Crossings as fab_model_Crossings
pub use Rattle.fab_gen_tile.specs.fab_model.proofs.Drives as fab_model_Drives
pub use Rattle.fab_gen_tile.specs.fab_model.proofs.Steps as fab_model_Steps
pub use Rattle.fab_gen_tile.specs.fab_model.proofs.Walks as fab_model_Walks
