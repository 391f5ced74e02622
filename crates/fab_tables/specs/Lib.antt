pub mod Cells
pub mod Lists
pub mod Bodies
pub mod Frames
pub mod Matrix
pub mod Config
pub mod inner
