pub mod Sites
pub mod Placing
pub mod Edges
pub mod Routing
pub mod Trees
pub mod Mapping
pub mod Bounds
pub mod Laws
pub use Rattle.fab_legal.specs.Legal as fab_legal_Legal
pub use Rattle.fab_legal.specs.Lines as fab_legal_Lines
pub use Rattle.fab_legal.specs.Sinks as fab_legal_Sinks
pub use Rattle.fab_legal.specs.Turns as fab_legal_Turns
pub use Rattle.fab_legal.specs.WellMade as fab_legal_WellMade
pub use Rattle.fab_legal.specs.inner.Kept as fab_legal_inner_Kept
