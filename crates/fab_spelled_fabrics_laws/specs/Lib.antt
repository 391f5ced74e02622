pub mod Laws
pub use Rattle.fab_read.specs.Fabrics as fab_read_Fabrics
pub use Rattle.fab_read.specs.Rows as fab_read_Rows
pub use Rattle.fab_read.specs.Tiles as fab_read_Tiles
