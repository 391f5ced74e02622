pub mod Has
pub use Rattle.fab_parts_sound_laws.specs.Fits as fab_parts_sound_laws_Fits
