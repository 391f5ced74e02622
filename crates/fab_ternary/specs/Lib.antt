pub mod Terns
