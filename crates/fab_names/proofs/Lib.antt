pub mod Leads
pub mod Texts
pub mod Families
pub mod Twice
pub mod Keys
pub mod Kept
