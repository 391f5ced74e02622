pub mod MatrixInputs
pub mod Distinct
pub mod Trees
pub mod WalkLaw
pub mod Users
pub mod NetSinks
pub mod Runs
pub mod Tested
