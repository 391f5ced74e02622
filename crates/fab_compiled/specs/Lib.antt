pub mod Terns
pub mod Trees
pub mod Evaluation
pub mod Leading
pub mod Parts
pub mod Pairs
pub mod Compiling
pub mod Values
pub mod inner
pub use Rattle.fab_solutions_laws.specs.Solutions as fab_solutions_laws_Solutions
pub use Rattle.fab_solutions_laws.specs.fab_ternary_laws_Shown as fab_ternary_laws_Shown
