pub mod Lists
pub mod Walks
pub mod Grown
pub mod InputPins
pub mod NetTrees
pub mod Legal
pub mod Ends
pub mod Bounded
pub mod Origins
pub use Rattle.fab_legal.proofs.Bindings as fab_legal_Bindings
pub use Rattle.fab_legal.proofs.Lists as fab_legal_Lists
pub use Rattle.fab_legal.proofs.Members as fab_legal_Members
pub use Rattle.fab_legal.proofs.Pins as fab_legal_Pins
pub use Rattle.fab_legal.proofs.Sets as fab_legal_Sets
pub use Rattle.fab_legal.proofs.SinkLaw as fab_legal_SinkLaw
