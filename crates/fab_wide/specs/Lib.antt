pub mod Split
pub mod Laws
pub mod inner
