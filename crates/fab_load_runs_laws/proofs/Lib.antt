pub mod Growing
pub mod Inside
pub mod Drivers
pub mod Streams
pub mod Leading
pub mod Closing
pub mod Running
pub mod Sound
pub use Rattle.fab_equations.specs.fab_meaning.proofs.SoundTexts as fab_meaning_SoundTexts
pub use Rattle.fab_equations.specs.fab_values.proofs.Widths as fab_values_Widths
