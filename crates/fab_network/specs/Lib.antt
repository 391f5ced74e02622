pub mod Network
pub mod Solved
pub mod Passes
pub mod Leading
pub mod Sharing
pub mod Tables
pub mod Forms
pub use Rattle.fab_compiled.specs.fab_solutions_laws_Solutions as fab_solutions_laws_Solutions
