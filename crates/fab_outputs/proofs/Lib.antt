pub mod OneByOne
pub mod Ending
