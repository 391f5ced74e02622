pub mod Boards
pub mod Activating
pub mod Drawing
pub mod Standing
pub mod inner
