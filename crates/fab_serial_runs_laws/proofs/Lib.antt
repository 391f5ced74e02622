pub mod Use
pub mod Headline
