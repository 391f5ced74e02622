pub mod Designs
pub mod Implementations
pub use Rattle.fab_wide.specs.Split as fab_wide_Split
pub use Rattle.fab_impl.specs.Lines as fab_impl_Lines
pub use Rattle.fab_impl.specs.Names as fab_impl_Names
pub use Rattle.fab_impl.specs.Spelled as fab_impl_Spelled
