pub mod Orders
pub mod Growing
pub mod Demanded
pub mod Drivers
pub use Rattle.fab_ternary_laws.proofs.Known as fab_ternary_laws_Known
