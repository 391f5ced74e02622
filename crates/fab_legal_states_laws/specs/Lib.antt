pub mod StandingLaws
pub mod ShortLaws
pub use Rattle.fab_points_laws.specs.fab_use_defs_Registers as fab_use_defs_Registers
