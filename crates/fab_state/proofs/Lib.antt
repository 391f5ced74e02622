pub mod Follows
pub mod Fixings
pub mod Printed
pub mod LineForms
pub mod Spelled
pub mod ReadBack
pub mod FixingsBack
