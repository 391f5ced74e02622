pub mod Spans
pub mod Measured
pub mod Boards
pub mod inner
