-- What only contracts inside the crate cite. No call that it hands on rests on these files.
pub mod Operands
pub mod Renewing
