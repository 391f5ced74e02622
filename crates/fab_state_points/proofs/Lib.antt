pub mod Found
pub mod Absent
