-- What only contracts inside the crate cite: first items as loops find them. No call that it hands on rests on this file.
pub mod Firsts
