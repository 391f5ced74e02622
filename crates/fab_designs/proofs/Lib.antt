pub mod Causes
pub mod Parts
pub mod SplitNetlists
pub mod Judged
pub mod DataPorts
pub use Rattle.fab_wide.proofs.Whole as fab_wide_Whole
pub use Rattle.fab_impl.proofs.WireNames as fab_impl_WireNames
