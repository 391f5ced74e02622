pub mod Lines
pub mod Grid
pub mod Lists
pub mod Drawn
pub mod Netlists
pub mod Files
