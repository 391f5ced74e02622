pub mod Items
pub mod Named
pub mod Samples
pub mod Laws
pub mod Fabrics
pub mod Sites
pub mod Sizes
pub mod Designs
pub mod Ready
pub use Rattle.fab_read.specs.Fabrics as fab_read_Fabrics
