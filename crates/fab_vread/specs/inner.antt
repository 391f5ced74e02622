-- The machine that reads. Only contracts inside the crate cite it, and `specs/Pieces`, into which no caller looks.
pub mod Expressions
pub mod OpenLevels
pub mod Places
pub mod Machine
pub mod Progress
