-- What only contracts inside the crate cite.
pub mod Narrowing
pub mod Words
