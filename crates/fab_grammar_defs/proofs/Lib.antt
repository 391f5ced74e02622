pub mod Printed
pub mod Once
