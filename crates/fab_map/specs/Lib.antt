pub mod Causes
pub use Rattle.fab_place.specs.Fixings as fab_place_Fixings
