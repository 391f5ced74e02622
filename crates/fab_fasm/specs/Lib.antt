pub mod Numbers
pub mod Parts
pub mod Values
pub mod Fasm
pub mod Printing
pub mod Spelled
pub mod inner
