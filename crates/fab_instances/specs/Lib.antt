pub mod Places
pub mod Formals
pub mod Uses
pub mod Order
pub mod Counting
pub mod Refusals
pub mod inner
